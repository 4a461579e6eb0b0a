-- Jobs: their targets are data zones, and what they copied stays where data zones do.
use Rattle.std.proofs.Common.{◌≡◌, ℕ, ◌+◌, ◌*◌, ◌≤◌, List, Option, Some, None, inl, inr, sym, ◌∙◌, arith}
use Rattle.zd_base.specs.Layout.{first_data_zone}
use Rattle.zd_model.specs.History.{HistoryEntry}
use Rattle.zd_model.specs.Image.{Image}
use Rattle.zd_model.specs.Tables.{entry_of}
use Rattle.zd_disk.proofs.ToldLaws.{Some-same}
use Rattle.zd_volume.specs.Jobs.{HasCopies, HasTarget, IsJob, IsJobOrNone}
use Rattle.zd_volume.specs.Sets.{AreSets, DataStays, Sets, new_tables, old_tables}
use Rattle.zd_volume.specs.declared.work.JobKind.{JobKind}
use Rattle.zd_volume.specs.declared.work.JobKind.TheVariants.{Empty, Move, Append, Merge}
use Rattle.zd_volume.specs.declared.work.Work.{Work}
use Rattle.zd_volume.proofs.Choices.{lowest}

module _ (s : Sets) (are : AreSets s) (pointers : List ℕ) where
  -- a target is a data zone
  pub target_data : (w : Work) → IsJob s pointers w → (z : ℕ) → w.target ≡ Some z
      → first_data_zone s.geometry s.head.layout ≤ z
  target_data w job z is = by_kind w.job.kind job.target
    where
      by_kind : (kind : JobKind)
          → HasTarget s.geometry (old_tables s) (new_tables s) kind (entry_of (new_tables s) w.job.chunk) w.target
          → first_data_zone s.geometry s.head.layout ≤ z
      by_kind Empty t = absurd (let none : None ≡ Some z = sym t ∙ is in let f : ⊥ = cc in f)
      by_kind Move t =
          let same = Some-same t.0 z (sym t.1 ∙ is) in
          let far = t.2 in
          let low = lowest s are in
          omega (arith, low)
      by_kind Append t = (are.new_rules.map.data_zones w.job.chunk z (inl (sym t ∙ is))).0
      by_kind Merge t = (are.new_rules.map.data_zones w.job.chunk z (inr (sym t ∙ is))).0

  -- copies stand in data zones
  pub copies_stay : (buffer : List ℕ) (job : Option Work) → IsJobOrNone s pointers job
      → (base : List (List ℕ)) (h : List HistoryEntry) (old new : Image) → DataStays s old new
      → HasCopies s buffer job base h old → HasCopies s buffer job base h new
  copies_stay buffer None jobs base h old new stay c = tt
  copies_stay buffer (Some w) jobs base h old new stay c = record {
    copied = λ y z x j from to low valid few.
        let was = c.copied y z x j from to low valid few in
        let same = stay.zones z (target_data w jobs z to) in
        (omega (arith, was.0, same.held), same.sectors (8 * x + j) (omega (arith, was.0)) ∙ was.1);
    read = c.read;
  }
