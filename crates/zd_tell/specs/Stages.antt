-- How far a run came, and what ended it there.
use Rattle.std.specs.Prelude.{◌≡◌, ℕ, ◌<◌, ◌≤◌}
use Rattle.zd_tell.specs.Telling.{HasStatus}

-- the stages of a run in their order: its words, its script, the opening of its disk, and the run
-- itself
pub data RunStage : Type 0 where
  Words : RunStage
  Script : RunStage
  Opening : RunStage
  Run : RunStage

-- its place in the order
abbrev pub stage_order : RunStage → ℕ
stage_order Words = 0
stage_order Script = 1
stage_order Opening = 2
stage_order Run = 3

-- a kind of run with outcomes O: in which stages an outcome may come, what holds where a stage was
-- passed, and what holds where a run ends so
pub record Course (O : Type 0) : Type 1 where
  pub Comes : RunStage → O → Type 0
  pub Passed : RunStage → Type 0
  pub Cause : O → Type 0

-- a run ended in this stage with this outcome: it passed the stages before
pub record EndsIn {O : Type 0} (course : Course O) (stage : RunStage) (outcome : O) : Type 0 where
  pub comes : course.Comes stage outcome
  pub earlier : (s : RunStage) → stage_order s < stage_order stage → course.Passed s
  pub cause : course.Cause outcome

-- a stage is passed or ends the run, and that in one way, as far as the outcomes are decided by their
-- causes
pub record DecidesAt {O : Type 0} (course : Course O) (Decided : O → Type 0) (stage : RunStage)
    : Type 0 where
  pub passed : (o : O) → Decided o → course.Comes stage o → course.Cause o → course.Passed stage → ⊥
  pub one : (o p : O) → Decided o → Decided p → course.Comes stage o → course.Comes stage p →
      course.Cause o → course.Cause p → o ≡ p

-- causes exclude each other: one decided outcome comes at most, in one stage
abbrev pub CausesExclude : {O : Type 0} → Course O → (O → Type 0) → Type 0
CausesExclude {O} course Decided = (s t : RunStage) (o p : O) → Decided o → Decided p →
    EndsIn course s o → EndsIn course t p → (s ≡ t) × (o ≡ p)

-- a run that ends in this stage may have this status, where outcomes come in stages so and have such
-- statuses of their own
abbrev pub MayEnd : {O : Type 0} → (RunStage → O → Type 0) → (O → ℕ) → RunStage → ℕ → Type 0
MayEnd {O} Comes own stage status = (o : O) × Comes stage o × HasStatus (own o) status

-- the status tells that the run came to this stage: in none before it may a run end so
abbrev pub CameTo : {O : Type 0} → (RunStage → O → Type 0) → (O → ℕ) → RunStage → ℕ → Type 0
CameTo Comes own stage status = (s : RunStage) → MayEnd Comes own s status →
    stage_order stage ≤ stage_order s

-- the status tells that the run ended before this stage
abbrev pub EndedBefore : {O : Type 0} → (RunStage → O → Type 0) → (O → ℕ) → RunStage → ℕ → Type 0
EndedBefore Comes own stage status = (s : RunStage) → MayEnd Comes own s status →
    stage_order s < stage_order stage
