-- The classes of all chunks, given one by one.
use Rattle.std.proofs.Common.{◌≡◌, ℕ, ◌+◌, List, length, replicate, Option, None, inl, inr, sym}
use Rattle.std.proofs.Common.{ap, ◌∙◌, subst, arith}
use Rattle.std.specs.List.{range_with_len}
use Rattle.std.proofs.lemmas.Bool.{cases_eq}
use Rattle.std.proofs.lemmas.List.{length-replicate}
use Rattle.zd_alloc.specs.Candidates.{GivesClass, IsInOrder, Standings, class_of}
use Rattle.zd_alloc.specs.declared.job_class.JobClass.{JobClass}
use Rattle.zd_base.specs.Geometry.{Shape}
use Rattle.zd_model.specs.declared.metadata.Super.{Super}
use Rattle.zd_state.specs.Started.{ClassesBelow}
use Rattle.zd_tables.specs.Held.{HeldTables, tables_held}
use Rattle.zd_volume.specs.Jobs.{class_in}
use Rattle.zd_volume.specs.Uses.{AreCandidates}
use Rattle.zd_volume.proofs.FixedStart.{same_sets}

module _ (h : HeldTables) (pointers : List ℕ) where
  pub classes_first : (s : Standings) → s.classes ≡ replicate h.layout.chunks None
      → IsInOrder (range_with_len 0 h.layout.chunks) s.numbers → ClassesBelow h pointers 0 s
  classes_first s none order = record {
    count = ap (λ (xs : List (Option JobClass)). length xs) none ∙ length-replicate h.layout.chunks None;
    in_order = order;
    each = λ c low few. absurd (let f : ⊥ = omega (arith, low) in f);
  }

  pub classes_next : (k : ℕ) (s r : Standings) (class : Option JobClass) → ClassesBelow h pointers k s
      → GivesClass k class s.classes r.classes → r.numbers ≡ s.numbers
      → class ≡ class_in h.geometry pointers (tables_held h) k → ClassesBelow h pointers (k + 1) r
  classes_next k s r class was gives numbers is = record {
    count = gives.count ∙ was.count;
    in_order = subst (λ (ns : List ℕ). IsInOrder (range_with_len 0 h.layout.chunks) ns) (sym numbers) was.in_order;
    each = λ c low few. elim (cases_eq c k) [
      | inl same ↦
          subst (λ (n : ℕ). class_of r.classes n ≡ class_in h.geometry pointers (tables_held h) n) (sym same)
          (gives.there ∙ is)
      | inr off ↦ gives.others c off ∙ was.each c (omega (arith, low, off)) few
    ];
  }

-- with all of them given each chunk is a candidate as its class says
pub candidates_all : (g : Shape) (head : Super) (bytes pointers order : List ℕ) (s : Standings)
    → order ≡ range_with_len 0 head.layout.chunks
    → ClassesBelow (record { geometry = g; layout = head.layout; bytes = bytes }) pointers head.layout.chunks s
    → AreCandidates (same_sets g head bytes) pointers order s
candidates_all g head bytes pointers order s numbers is = record {
  count = is.count;
  in_order = subst (λ (ns : List ℕ). IsInOrder ns s.numbers) (sym numbers) is.in_order;
  each = λ c low. is.each c low low;
}
