use Rattle.std.proofs.Common.{◌≡◌, ◌∙◌, ap, sym, ◌∷◌, [], length, take, replicate}
use Rattle.std.proofs.Math.Seq.{take-length}
use Rattle.zd_model.specs.Super.{before_crc, behind_crc}
use Rattle.zd_super.proofs.FrontLaws.{whole}
use Rattle.zd_super.proofs.encoding.put_fields.Goals as goal

pub returns : goal.returns
unfolding behind_crc
returns c =
    let out = c.put-5.new.out in
    let count : length out ≡ 4096 = c.put-5.ensures.length ∙ c.put-4.ensures.length ∙ c.put-3.ensures.length
    ∙ c.put-2.ensures.length ∙ c.put.ensures.length ∙ c.put_numbers.ensures.length in
    let all : take 4096 out ≡ out = ap (λ n. take n out) (sym count) ∙ take-length out in
    whole (before_crc c.args.head.now) _ _ _ _ _ _ out (0 ∷ 0 ∷ 0 ∷ 0 ∷ []) c.args.head.now.label c.args.head.now.volume
    c.args.head.now.device (replicate 3984 0) _ _ c.put_numbers.ensures.front c.as_bytes.ensures c.as_bytes-2.ensures
    c.put.ensures.front c.put-2.ensures.front c.put-3.ensures.front c.put-4.ensures.front c.put-5.ensures.front all
