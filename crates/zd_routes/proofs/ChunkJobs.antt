-- THE JOB UNDER WAY goes on beside a change of another chunk.
use Rattle.std.proofs.Common.{◌≡◌, ◌≢◌, ◌⊎◌, ℕ, List, Option, Some, None, slice_index, inl, inr, sym, ap, ◌∙◌, subst}
use Rattle.std.proofs.Common.{arith}
use Rattle.zd_base.specs.Geometry.{Shape}
use Rattle.zd_model.specs.Tables.{NamesZone, Tables, entry_of}
use Rattle.zd_model.specs.declared.metadata.MapEntry.{MapEntry}
use Rattle.zd_tables.specs.Tables.{tables_in}
use Rattle.zd_volume.specs.Discards.{NoJobOn}
use Rattle.zd_volume.specs.Jobs.{FitsEntry, HasTarget, IsJob, IsJobOrNone, IsNamed, IsTarget, source_of}
use Rattle.zd_volume.specs.Sets.{AreSets, Sets, new_tables, old_tables}
use Rattle.zd_volume.specs.declared.work.JobKind.{JobKind}
use Rattle.zd_volume.specs.declared.work.JobKind.TheVariants.{Append, Empty, Merge, Move}
use Rattle.zd_volume.specs.declared.work.Work.{Work}
use Rattle.zd_volume.proofs.DropUses.{source_named}
use Rattle.zd_routes.specs.Changes.{ChangesChunk, MayHave}
use Rattle.zd_routes.proofs.ChunkSets.{named_by, others_kept}

-- a target stays one, where it isn't named now
target_kept : (g : Shape) (old t u : Tables) (kind : JobKind) (e : MapEntry) (target : Option ℕ)
    → ((z : ℕ) → target ≡ Some z → (IsNamed t z → ⊥) → IsNamed u z → ⊥)
    → HasTarget g old t kind e target → HasTarget g old u kind e target
target_kept g old t u Empty e target unnamed has = has
target_kept g old t u Move e target unnamed has =
    (has.0, has.1, has.2, has.3, has.4, unnamed has.0 has.1 has.5)
target_kept g old t u Append e target unnamed has = has
target_kept g old t u Merge e target unnamed has = has

module _ (s : Sets) (are : AreSets s) (chunk : ℕ) (entry : MapEntry) (bytes : List ℕ) (may : MayHave s chunk entry)
    (did : ChangesChunk s.geometry chunk entry (new_tables s) (tables_in s.geometry s.head.layout bytes))
    (pointers moved : List ℕ) where
  abbrev u : Tables
  u = tables_in s.geometry s.head.layout bytes

  job_changed : (w : Work) → w.job.chunk ≢ chunk
      → ((z : ℕ) → NamesZone entry z → NamesZone (entry_of (new_tables s) chunk) z ⊎ (w.target ≢ Some z))
      → ((z : ℕ) → w.target ≡ Some z → slice_index moved z ≡ slice_index pointers z)
      → IsJob s pointers w → IsJob (record s { new = bytes }) moved w
  job_changed w off apart stays job = record {
    chunk = job.chunk;
    entry = subst (λ (e : MapEntry). FitsEntry s.geometry w.job.kind e) (sym same) job.entry;
    target = subst (λ (e : MapEntry). HasTarget s.geometry (old_tables s) u w.job.kind e w.target) (sym same)
        (target_kept s.geometry (old_tables s) (new_tables s) u w.job.kind (entry_of (new_tables s) w.job.chunk)
        w.target unnamed job.target);
    emptied = λ y x kind zone low.
        let was : (entry_of (new_tables s) w.job.chunk).zone ≡ Some y = sym (ap (λ (e : MapEntry). e.zone) same) ∙ zone in
        others_kept s are chunk entry bytes may did w.job.chunk y x off (inl was) low
        ∙ job.emptied y x kind was low;
    inside = job.inside;
    few = job.few;
    unread = job.unread;
    run = λ y x source low high.
        let inside = job.inside in
        let was : source_of w.job.kind (entry_of (new_tables s) w.job.chunk) ≡ Some y =
        sym (ap (source_of w.job.kind) same) ∙ source in
        others_kept s are chunk entry bytes may did w.job.chunk y x off
        (source_named w.job.kind (entry_of (new_tables s) w.job.chunk) y was) (omega (arith, high, inside))
        ∙ job.run y x was low high;
    pointer = λ z target high. stays z target ∙ job.pointer z target high;
  }
    where
      same : entry_of u w.job.chunk ≡ entry_of (new_tables s) w.job.chunk
      same = did.others w.job.chunk off

      unnamed : (z : ℕ) → w.target ≡ Some z → (IsNamed (new_tables s) z → ⊥) → IsNamed u z → ⊥
      unnamed z target bare n = elim (named_by s are chunk entry bytes may did n.0 z n.1) [
        | inl here ↦ elim (apart z here.1) [
          | inl own ↦ bare (chunk, own)
          | inr other ↦ other target
        ]
        | inr there ↦ bare (n.0, there.1)
      ]

  -- the chunk has no zone that is a job's target, but its own; the pointers of targets are as they were
  pub jobs_changed : (job : Option Work) → NoJobOn job chunk
      → ((z : ℕ) → NamesZone entry z → NamesZone (entry_of (new_tables s) chunk) z ⊎ (IsTarget job z → ⊥))
      → ((z : ℕ) → IsTarget job z → slice_index moved z ≡ slice_index pointers z)
      → IsJobOrNone s pointers job → IsJobOrNone (record s { new = bytes }) moved job
  jobs_changed None off apart stays jobs = tt
  jobs_changed (Some w) off apart stays jobs = job_changed w off apart stays jobs
