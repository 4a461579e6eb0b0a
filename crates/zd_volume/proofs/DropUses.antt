-- Where the bits of a range of a chunk's blocks are cleared, the zones are used as they were, each chunk has its class,
-- and a job on another chunk goes on.
use Rattle.std.proofs.Common.{◌≡◌, ◌≢◌, ℕ, suc, zero, ◌+◌, Bool, cond, List, Option, Some, None, inl, inr, refl, sym}
use Rattle.std.proofs.Common.{ap, ap₂, ◌∙◌, subst}
use Rattle.std.proofs.lemmas.Bool.{cases_eq}
use Rattle.std.specs.List.{find, range_with_len}
use Rattle.std.specs.Prelude.{nat_lt, slice_index}
use Rattle.zd_base.specs.Geometry.{Shape}
use Rattle.zd_alloc.specs.Candidates.{GivesClass, Standings, class_of}
use Rattle.zd_alloc.specs.Zones.{Division}
use Rattle.zd_alloc.specs.declared.job_class.JobClass.{JobClass}
use Rattle.zd_model.specs.Tables.{NamesZone, Tables, entry_of, is_valid}
use Rattle.zd_model.specs.declared.metadata.MapEntry.{MapEntry}
use Rattle.zd_model.proofs.FaultLaws.{none_some}
use Rattle.zd_tables.specs.Held.{first_valid_block}
use Rattle.zd_tables.specs.Tables.{tables_in}
use Rattle.zd_volume.specs.Discards.{ClearsRange, NoJobOn}
use Rattle.zd_volume.specs.Jobs.{FitsEntry, HasTarget, IsJob, IsJobOrNone, IsNamed, class_alone, class_buffered}
use Rattle.zd_volume.specs.Jobs.{class_by, class_in, source_of}
use Rattle.zd_volume.specs.Sets.{AreSets, Sets, new_tables, old_tables}
use Rattle.zd_volume.specs.Uses.{AreCandidates, AreUsed}
use Rattle.zd_volume.specs.declared.work.JobKind.{JobKind}
use Rattle.zd_volume.specs.declared.work.JobKind.TheVariants.{Empty, Move, Append, Merge}
use Rattle.zd_volume.specs.declared.work.Work.{Work}
use Rattle.zd_volume.proofs.DropTables.{named_after, named_before, others_stay}

-- the first block that is valid, where the same ones are
find_same : (p q : ℕ → Bool) (a n : ℕ) → ((x : ℕ) → p x ≡ q x)
    → find p (range_with_len a n) ≡ find q (range_with_len a n)
find_same p q a zero same = refl
find_same p q a (suc n) same =
    ap₂ (λ (b : Bool) (rest : Option ℕ). cond b (Some a) rest) (same a) (find_same p q (a + 1) n same)

pub first_same : (b : ℕ) (t u : Tables) (z : ℕ) → ((x : ℕ) → is_valid u z x ≡ is_valid t z x)
    → first_valid_block b u z ≡ first_valid_block b t z
first_same b t u z same = find_same (is_valid u z) (is_valid t z) 0 b same

-- a chunk whose zones are as they were has the class that it had
class_same : (g : Shape) (pointers : List ℕ) (t u : Tables) (zone buffer : Option ℕ)
    → ((z x : ℕ) → zone ≡ Some z → is_valid u z x ≡ is_valid t z x)
    → ((z x : ℕ) → buffer ≡ Some z → is_valid u z x ≡ is_valid t z x)
    → class_by g pointers u zone buffer ≡ class_by g pointers t zone buffer
class_same g pointers t u None buffer zones buffers = refl
class_same g pointers t u (Some z) None zones buffers =
    ap (class_alone (nat_lt z g.conv)) (first_same g.zone_blocks t u z (λ x. zones z x refl))
class_same g pointers t u (Some z) (Some b) zones buffers =
    ap (λ (first : Option ℕ). class_buffered first (slice_index pointers z))
    (first_same g.zone_blocks t u b (λ x. buffers b x refl))

pub class_stays : (g : Shape) (pointers : List ℕ) (t u : Tables) (c : ℕ) → entry_of u c ≡ entry_of t c
    → ((z x : ℕ) → NamesZone (entry_of t c) z → is_valid u z x ≡ is_valid t z x)
    → class_in g pointers u c ≡ class_in g pointers t c
class_stays g pointers t u c same zones =
    ap (λ (e : MapEntry). class_by g pointers u e.zone e.buffer) same
    ∙ class_same g pointers t u (entry_of t c).zone (entry_of t c).buffer
    (λ z x h. zones z x (inl h)) (λ z x h. zones z x (inr h))

-- a job copies from a zone of its chunk
pub source_named : (kind : JobKind) (e : MapEntry) (y : ℕ) → source_of kind e ≡ Some y → NamesZone e y
source_named Empty e y is = absurd (none_some y is)
source_named Move e y is = inl is
source_named Append e y is = inr is
source_named Merge e y is = inl is

-- a target stays one, where no zone is named that wasn't
target_stays : (g : Shape) (old t u : Tables) (kind : JobKind) (e : MapEntry) (target : Option ℕ)
    → ((z : ℕ) → IsNamed u z → IsNamed t z) → HasTarget g old t kind e target → HasTarget g old u kind e target
target_stays g old t u Empty e target less has = has
target_stays g old t u Move e target less has =
    (has.0, has.1, has.2, has.3, has.4, (λ n. has.5 (less has.0 n)))
target_stays g old t u Append e target less has = has
target_stays g old t u Merge e target less has = has

module _ (s : Sets) (are : AreSets s) (chunk from end : ℕ) (bytes : List ℕ)
    (did : ClearsRange s chunk from end bytes) where
  abbrev t : Tables
  t = new_tables s

  abbrev u : Tables
  u = tables_in s.geometry s.head.layout bytes

  less : (z : ℕ) → IsNamed (tables_in s.geometry s.head.layout bytes) z → IsNamed (new_tables s) z
  less z n = (n.0, named_before s are chunk from end bytes did n.0 z n.1)

  more : (z : ℕ) → IsNamed (new_tables s) z → IsNamed (tables_in s.geometry s.head.layout bytes) z
  more z n = (n.0, named_after s are chunk from end bytes did n.0 z n.1)

  -- THE USES
  pub uses_dropped : (job : Option Work) (d : Division) → AreUsed s job d → AreUsed (record s { new = bytes }) job d
  uses_dropped job d was = record {
    count = was.count;
    conv = was.conv;
    order = was.order;
    meta = was.meta;
    free = λ z is. (let f = was.free z is in (f.0, (λ n. f.1 (less z n)), f.2));
    limbo = λ z is. (let f = was.limbo z is in (f.0, (λ n. f.1 (less z n)), f.2));
    held = λ z is. elim (was.held z is) [ inl n ↦ inl (more z n) | inr a ↦ inr a ];
    named = λ z n. was.named z (less z n);
    target = was.target;
  }

  -- THE CLASSES
  pub candidates_dropped : (pointers order : List ℕ) (standings : Standings) (classes : List (Option JobClass))
      → GivesClass chunk (class_in s.geometry pointers (tables_in s.geometry s.head.layout bytes) chunk)
      standings.classes classes
      → AreCandidates s pointers order standings
      → AreCandidates (record s { new = bytes }) pointers order (record standings { classes = classes })
  candidates_dropped pointers order standings classes gives was = record {
    count = gives.count ∙ was.count;
    in_order = was.in_order;
    each = λ c low. elim (cases_eq c chunk) [
      | inl here ↦ subst (λ (k : ℕ). class_of classes k ≡ class_in s.geometry pointers u k) (sym here) gives.there
      | inr off ↦
          gives.others c off
          ∙ was.each c low
          ∙ sym (class_stays s.geometry pointers t u c (did.bits.entries c)
          (λ z x n. others_stay s are chunk from end bytes did c z x off n))
    ];
  }

  -- THE JOB
  job_dropped : (w : Work) (pointers : List ℕ) → w.job.chunk ≢ chunk → IsJob s pointers w
      → IsJob (record s { new = bytes }) pointers w
  job_dropped w pointers off job = record {
    chunk = job.chunk;
    entry = subst (λ (e : MapEntry). FitsEntry s.geometry w.job.kind e) (sym same) job.entry;
    target = subst (λ (e : MapEntry). HasTarget s.geometry (old_tables s) u w.job.kind e w.target) (sym same)
        (target_stays s.geometry (old_tables s) (new_tables s) u w.job.kind (entry_of (new_tables s) w.job.chunk)
        w.target less job.target);
    emptied = λ y x kind zone low.
        let was : (entry_of (new_tables s) w.job.chunk).zone ≡ Some y = sym (ap (λ (e : MapEntry). e.zone) same) ∙ zone in
        others_stay s are chunk from end bytes did w.job.chunk y x off (inl was)
        ∙ job.emptied y x kind was low;
    inside = job.inside;
    few = job.few;
    unread = job.unread;
    run = λ y x source low high.
        let was : source_of w.job.kind (entry_of (new_tables s) w.job.chunk) ≡ Some y =
        sym (ap (source_of w.job.kind) same) ∙ source in
        others_stay s are chunk from end bytes did w.job.chunk y x off
        (source_named w.job.kind (entry_of (new_tables s) w.job.chunk) y was)
        ∙ job.run y x was low high;
    pointer = job.pointer;
  }
    where
      same : entry_of u w.job.chunk ≡ entry_of (new_tables s) w.job.chunk
      same = did.bits.entries w.job.chunk

  pub jobs_dropped : (job : Option Work) (pointers : List ℕ) → NoJobOn job chunk → IsJobOrNone s pointers job
      → IsJobOrNone (record s { new = bytes }) pointers job
  jobs_dropped None pointers off jobs = tt
  jobs_dropped (Some w) pointers off jobs = job_dropped w pointers off jobs
