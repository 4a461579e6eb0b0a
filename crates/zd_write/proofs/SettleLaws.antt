-- A bare chunk that was promoted is settled.
use Rattle.std.proofs.Common.{◌≡◌, ℕ, sym, ap, ◌∙◌, subst}
use Rattle.zd_disk.proofs.ToldLaws.{Some-same}
use Rattle.zd_model.specs.declared.metadata.MapEntry.{MapEntry}
use Rattle.zd_routes.specs.Promotions.{IsBare, PromotesChunk}
use Rattle.zd_volume.specs.Volumes.{PlainVolume}
use Rattle.zd_write.specs.Tries.{Settles}

-- a bare chunk has one zone and one buffer
zone_once : (v : PlainVolume) (chunk a b c d : ℕ) → IsBare v chunk a b → IsBare v chunk c d → a ≡ c
zone_once v chunk a b c d one two = Some-same a c (ap (λ (e : MapEntry). e.zone) (sym one.entry ∙ two.entry))

buffer_once : (v : PlainVolume) (chunk a b c d : ℕ) → IsBare v chunk a b → IsBare v chunk c d → b ≡ d
buffer_once v chunk a b c d one two = Some-same b d (ap (λ (e : MapEntry). e.buffer) (sym one.entry ∙ two.entry))

pub settles_bare : (from to : PlainVolume) (chunk zone buffer : ℕ) → IsBare from chunk zone buffer
    → PromotesChunk from to chunk zone buffer → Settles from to chunk
settles_bare from to chunk zone buffer bare did = record {
  bare = λ z b is.
      subst (λ (n : ℕ). PromotesChunk from to chunk n b) (zone_once from chunk zone buffer z b bare is)
      (subst (λ (n : ℕ). PromotesChunk from to chunk zone n)
      (buffer_once from chunk zone buffer z b bare is) did);
  others = λ none. absurd (none zone buffer bare);
}
