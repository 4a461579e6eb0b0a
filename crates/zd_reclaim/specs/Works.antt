-- What a step of a job makes of a volume, and its call of the disk.
use Rattle.std.specs.Prelude.{◌≡◌, ℕ, Result, IfErr, IfOk, IsOk, OnErr, OnOk, Some}
use Rattle.zd_base.specs.declared.numbers.Why.{Why}
use Rattle.zd_base.specs.declared.steps.StepKind.{StepKind}
use Rattle.zd_base.specs.declared.steps.StepKind.TheVariants.{CopyRead, CopyWrite, Remap}
use Rattle.zd_disk.specs.View.{HasFailed, OnlyReads, ReadsOnce, View}
use Rattle.zd_volume.specs.Volumes.{PlainVolume}
use Rattle.zd_volume.specs.declared.work.Work.{Work}
use Rattle.zd_jobs.specs.JobSteps.{FailsCopyRead, ReadsBlocks}
use Rattle.zd_jobs.specs.NextSteps.{IsNextOf}
use Rattle.zd_jobs.specs.Remaps.{RemapsChunk}
use Rattle.zd_state.specs.JobCalls.{CopiesOn}

-- ONE READ: the next run is read ahead, or the call failed
pub record ReadsAhead {T E : Type 0} (from to : PlainVolume) (w : Work) (result : Result T E) (u x : View)
    : Type 0 where
  pub call : ReadsOnce u x
  pub reads : OnlyReads u x
  pub ok : OnOk result ((at count : ℕ) × ReadsBlocks from to w at count u.zones)
  pub err : OnErr result (FailsCopyRead from to)

-- what a step of this kind does, with its call done or failed; the last step makes none, and doesn't fail
abbrev pub WorksOn : StepKind → PlainVolume → PlainVolume → Work → Result StepKind Why → View → View → Type 0
WorksOn CopyRead from to w result u x = ReadsAhead from to w result u x
WorksOn CopyWrite from to w result u x = CopiesOn from to w result u x
WorksOn Remap from to w result u x = IsOk result × RemapsChunk from to w
WorksOn kind from to w result u x = ⊥

-- THE NEXT STEP of the job under way was made: its kind is the answer, or the disk failed
pub record MakesNextStep (from to : PlainVolume) (result : Result StepKind Why) (u x : View) : Type 0 where
  pub work : Work
  pub under_way : from.job ≡ Some work
  pub kind : StepKind
  pub next : IsNextOf from work kind
  pub works : WorksOn kind from to work result u x
  pub ok : IfOk result (λ did. did ≡ kind)
  pub err : IfErr result (λ why. (why ≡ Why.Device) × HasFailed u x)
