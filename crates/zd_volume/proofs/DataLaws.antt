-- What a data write makes of one sector.
use Rattle.std.proofs.Common.{◌≡◌, ◌⊎◌, ℕ, ◌+◌, ◌-◌, ◌*◌, ◌<◌, ◌≤◌, max, List, take, inl, inr, ap, ◌∙◌, subst, arith}
use Rattle.std.proofs.lemmas.Bool.{cases_eq, cases_lt}
use Rattle.zd_model.specs.Image.{Image}
use Rattle.zd_disk.specs.Steps.{Wrote, WriteStep, count_of, piece}

-- sector s of zone y is one of those that were put
abbrev pub IsPutAt : ℕ → ℕ → List ℕ → ℕ → ℕ → List ℕ → Type 0
IsPutAt z start bytes y s value =
    (y ≡ z) × ((j : ℕ) × (j < count_of bytes) × (s ≡ start + j) × (value ≡ piece bytes j))

-- A sector below the pointer after a write that may be cut short: as it was, as the disk reads it, or put
pub data_step : (reads old new : Image) (z start : ℕ) (bytes : List ℕ) (y s : ℕ) → WriteStep reads z start bytes old new
    → (old.geometry.conv ≤ z → start ≡ reads.held z) → s < old.held y → s < reads.held y
    → (s < new.held y)
    × ((new.sector y s ≡ old.sector y s) ⊎ ((new.sector y s ≡ reads.sector y s)
    ⊎ IsPutAt z start bytes y s (new.sector y s)))
data_step reads old new z start bytes y s w pointer l m = elim (cases_eq y z) [
  | inl here ↦ subst (λ (u : ℕ). (s < new.held u)
      × ((new.sector u s ≡ old.sector u s) ⊎ ((new.sector u s ≡ reads.sector u s)
      ⊎ ((y ≡ z) × ((j : ℕ) × (j < count_of bytes) × (s ≡ start + j) × (new.sector u s ≡ piece bytes j))))))
      (let back : z ≡ y = omega (arith, here) in back)
      (by_kind here (subst (λ (u : ℕ). s < old.held u) here l) (subst (λ (u : ℕ). s < reads.held u) here m))
  | inr other ↦
      let same = w.others y other in
      (omega (arith, same.held), inl (same.sectors s l))
]
  where
    by_kind : y ≡ z → s < old.held z → s < reads.held z → (s < new.held z)
        × ((new.sector z s ≡ old.sector z s) ⊎ ((new.sector z s ≡ reads.sector z s)
        ⊎ ((y ≡ z) × ((j : ℕ) × (j < count_of bytes) × (s ≡ start + j) × (new.sector z s ≡ piece bytes j)))))
    by_kind here in_old in_reads = elim (cases_lt z old.geometry.conv) [
      | inl conv ↦
          let at = w.conventional conv in
          let h = at.held in (
            omega (arith, h),
            elim (at.sectors s in_old) [
              | inl stay ↦ inl stay
              | inr put ↦ inr (inr (here, put))
            ],
          )
      | inr seq ↦ elim (w.sequential seq) [
        | inl same ↦ (let h = same.held in (omega (arith, h), inl (same.sectors s in_old)))
        | inr front ↦
            let p = pointer seq in
            let h : new.held z ≡ max (reads.held z) (start + count_of (take (512 * front.0) bytes)) = front.2.held in
            (omega (arith, h), inr (inl (front.2.before s (omega (arith, p)) in_reads)))
      ]
    ]

-- after one that was done: as it was, or put
pub data_wrote : (old new : Image) (z start : ℕ) (bytes : List ℕ) (y s : ℕ) → Wrote z start bytes old new
    → s < old.held y
    → (s < new.held y) × ((new.sector y s ≡ old.sector y s) ⊎ IsPutAt z start bytes y s (new.sector y s))
data_wrote old new z start bytes y s w l = elim (cases_eq y z) [
  | inl here ↦
      subst (λ (u : ℕ). (s < new.held u) × ((new.sector u s ≡ old.sector u s)
      ⊎ ((y ≡ z) × ((j : ℕ) × (j < count_of bytes) × (s ≡ start + j) × (new.sector u s ≡ piece bytes j)))))
      (let back : z ≡ y = omega (arith, here) in back) (in_zone here (subst (λ (u : ℕ). s < old.held u) here l))
  | inr other ↦
      let same = w.others y other in
      (omega (arith, same.held), inl (same.sectors s l))
]
  where
    in_zone : y ≡ z → s < old.held z → (s < new.held z)
        × ((new.sector z s ≡ old.sector z s) ⊎ ((y ≡ z)
        × ((j : ℕ) × (j < count_of bytes) × (s ≡ start + j) × (new.sector z s ≡ piece bytes j))))
    in_zone here in_old =
        let h = w.zone.held in (
          omega (arith, h),
          elim (cases_lt s start) [
            | inl before ↦ inl (w.zone.before s before in_old)
            | inr from ↦ elim (cases_lt s (start + count_of bytes)) [
              | inl in_it ↦
                  let at : s ≡ start + (s - start) = omega arith in
                  inr (
                    here,
                    (
                      s - start,
                      omega arith,
                      at,
                      ap (λ (k : ℕ). new.sector z k) at ∙ w.zone.put (s - start) (omega arith),
                    ),
                  )
              | inr behind ↦ inl (w.zone.behind s behind in_old)
            ]
          ],
        )
