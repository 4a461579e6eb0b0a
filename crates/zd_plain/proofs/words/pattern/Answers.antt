-- Word j joins the words before it, and 64 words are the sector.
use Rattle.std.proofs.Common.{◌≡◌, ℕ, List, ◌*◌, ◌++◌, sym, ap, ap₂, ◌∙◌, arith}
use Rattle.std.proofs.lemmas.List.{take_all}
use Rattle.std.specs.Int.{w64, to_le_bytes}
use Rattle.std.specs.List.{range_with_len, flat_map}
use Rattle.zd_model.specs.Plain.{word, pattern}
use Rattle.zd_plain.proofs.WordLaws.{joined_more}
use Rattle.zd_plain.proofs.words.pattern.Goals as goal

pub loop-j-preserved : goal.loop-j-preserved
loop-j-preserved c =
    let f : ℕ → List ℕ = λ j. to_le_bytes w64 (word c.args.seed c.args.sector j) in
    c.put_word.ensures
    ∙ ap₂ (λ (xs ys : List ℕ). xs ++ ys) c.loop-j.invariant (ap (to_le_bytes w64) c.word.ensures)
    ∙ sym (joined_more f 0 c.loop-j.j c.loop-j.j (omega arith))

pub returns : goal.returns
unfolding pattern
returns c =
    let last : c.loop-j.j ≡ 64 = omega arith in
    sym (take_all (8 * c.loop-j.j) c.loop-j.out (omega arith))
    ∙ c.loop-j.invariant
    ∙ ap (λ n. flat_map (λ j. to_le_bytes w64 (word c.args.seed c.args.sector j)) (range_with_len 0 n)) last
