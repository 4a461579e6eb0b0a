-- How a run ends: in which stage, for which cause, and which object tells that cause.
use Rattle.std.specs.Prelude.{◌≡◌, ◌⊎◌, ◌<◌, ℕ, IsTrue, IsSome, Option, None, Some, List, []}
use Rattle.zd_base.specs.declared.numbers.Why.{Why}
use Rattle.zd_base.specs.declared.numbers.Why.TheVariants as whys
use Rattle.zd_disk.specs.Told.{WhereTold}
use Rattle.zd_examine.specs.Examined.{ExplainsRefusal}
use Rattle.zd_examine.specs.declared.examining.OpenFault.{OpenFault}
use Rattle.zd_examine.specs.declared.examining.OpenFault.TheVariants as opens
use Rattle.zd_model.specs.History.{HistoryEntry}
use Rattle.zd_model.specs.Image.{Image}
use Rattle.zd_model.specs.Report.{outcome_status, run_output}
use Rattle.zd_model.specs.Script.{IsScript, RefusesScript}
use Rattle.zd_model.specs.Volume.{WellFormed}
use Rattle.zd_model.specs.declared.requests.Ending.TheVariants as endings
use Rattle.zd_model.specs.declared.requests.Request.{Request}
use Rattle.zd_model.specs.declared.texts.NoVolume.{NoVolume}
use Rattle.zd_model.specs.declared.texts.NoVolume.TheVariants as volumes
use Rattle.zd_model.specs.declared.texts.Outcome.{Outcome}
use Rattle.zd_model.specs.declared.texts.Outcome.TheVariants as outcomes
use Rattle.zd_report.specs.Fixed.{IsFixedLine}
use Rattle.zd_script.specs.declared.fault.ScriptFault.{ScriptFault}
use Rattle.zd_script.specs.declared.fault.ScriptFault.TheVariants as scripts
use Rattle.zd_tell.specs.Stages.{CameTo, CausesExclude, Course, EndedBefore, EndsIn, MayEnd, RunStage, stage_order}
use Rattle.zd_tell.specs.Stages.RunStage.{Words, Script, Opening, Run}
use Rattle.zd_tell.specs.Telling.{Telling}
use Rattle.zd_replay.specs.Words.{is_command}

-- the words are a command
abbrev pub IsReplayCommand : List (List ℕ) → Type 0
IsReplayCommand words = IsTrue (is_command words)

-- the bytes are the script of some plan
abbrev pub IsScriptOfSome : List ℕ → Type 0
IsScriptOfSome bytes = (plan : List Request) × IsScript bytes plan

-- the answer of opening that tells so
abbrev pub fault_of : NoVolume → OpenFault
fault_of volumes.NoSuperBlock = opens.NoSuperBlock
fault_of volumes.Layout = opens.Layout
fault_of (volumes.BadMap chunk) = opens.BadMap chunk
fault_of (volumes.BadBits zone block) = opens.BadBits zone block

-- how a run ends for want of memory, and by a failure of the disk
abbrev pub no_memory : Outcome
no_memory = outcomes.Ended (endings.Stopped whys.Memory)

abbrev pub no_device : Outcome
no_device = outcomes.Ended (endings.Stopped whys.Device)

-- how a run ends where a commit was due and there was no next generation
abbrev pub no_generation : Outcome
no_generation = outcomes.Ended (endings.Stopped whys.Generation)

abbrev pub all_done : Outcome
all_done = outcomes.Ended endings.Ok

-- the outcomes that may come while the script is read, while the disk is opened, and once it is
abbrev pub EndsScript : Outcome → Type 0
EndsScript outcomes.Source = Unit {0}
EndsScript (outcomes.BadScript line why) = Unit {0}
EndsScript (outcomes.Ended (endings.Stopped whys.Memory)) = Unit {0}
EndsScript outcome = ⊥

abbrev pub EndsOpening : Outcome → Type 0
EndsOpening (outcomes.NoVolume kind) = Unit {0}
EndsOpening (outcomes.Ended (endings.Stopped whys.Device)) = Unit {0}
EndsOpening (outcomes.Ended (endings.Stopped whys.Memory)) = Unit {0}
EndsOpening outcome = ⊥

abbrev pub EndsRun : Outcome → Type 0
EndsRun (outcomes.Ended ending) = Unit {0}
EndsRun outcome = ⊥

-- in which stages an outcome may come
abbrev pub ReplayComes : RunStage → Outcome → Type 0
ReplayComes Words outcome = outcome ≡ outcomes.Usage
ReplayComes Script outcome = EndsScript outcome
ReplayComes Opening outcome = EndsOpening outcome
ReplayComes Run outcome = EndsRun outcome

-- what holds where a stage was passed, as far as the object tells that it is about; the run is the last
abbrev pub ReplayPassed : List (List ℕ) → Option (List ℕ) → Option Image → RunStage → Type 0
ReplayPassed words left zones Words = IsReplayCommand words
ReplayPassed words left zones Script = WhereTold left IsScriptOfSome
ReplayPassed words left zones Opening = WhereTold zones WellFormed
ReplayPassed words left zones Run = ⊥

-- what holds where a run ends so: a refusal of words needs no object, one of the script its bytes alone, and
-- one of the disk its image alone. What the counts of faults say stands in fields of their own.
abbrev pub ReplayCause : List (List ℕ) → Option (List ℕ) → Option Image → Outcome → Type 0
ReplayCause words left zones outcomes.Usage = IsReplayCommand words → ⊥
ReplayCause words left zones (outcomes.BadScript line why) =
    WhereTold left (λ bytes. RefusesScript bytes line why)
ReplayCause words left zones (outcomes.NoVolume kind) = WhereTold zones (ExplainsRefusal (fault_of kind))
ReplayCause words left zones outcome = Unit {0}

-- the runs by these words, where the source tells these bytes, and the disk these zones
abbrev pub replay_course : List (List ℕ) → Option (List ℕ) → Option Image → Course Outcome
replay_course words left zones = record {
  Comes = ReplayComes;
  Passed = ReplayPassed words left zones;
  Cause = ReplayCause words left zones;
}

-- HOW A RUN ENDS: with the cause of its outcome, and it passed the stages before
abbrev pub ReplayEnds : List (List ℕ) → Option (List ℕ) → Option Image → RunStage → Outcome → Type 0
ReplayEnds words left zones = EndsIn (replay_course words left zones)

-- such a run ends so before its disk is opened, whatever the disk tells
abbrev pub EndsUnread : List (List ℕ) → Option (List ℕ) → Outcome → Type 0
EndsUnread words left outcome = (stage : RunStage) × (stage_order stage < stage_order Opening)
    × ((zones : Option Image) → ReplayEnds words left zones stage outcome)

-- the outcomes that words, script and image decide, and no count of faults and no memory
abbrev pub IsReplayDecided : Outcome → Type 0
IsReplayDecided outcomes.Usage = Unit {0}
IsReplayDecided (outcomes.BadScript line why) = Unit {0}
IsReplayDecided (outcomes.NoVolume kind) = Unit {0}
IsReplayDecided (outcomes.Ended endings.Ok) = Unit {0}
IsReplayDecided outcome = ⊥

-- what decides the stages up to this one is told
abbrev pub AreToldTo : RunStage → Option (List ℕ) → Option Image → Type 0
AreToldTo Words left zones = Unit {0}
AreToldTo Script left zones = IsSome left
AreToldTo stage left zones = IsSome left × IsSome zones

-- the objects that the stages up to this one call didn't fail
abbrev pub NoneFailedTo : RunStage → (source disk sink : Type 0) → Type 0
NoneFailedTo Words source disk sink = Unit {0}
NoneFailedTo Script source disk sink = source
NoneFailedTo Opening source disk sink = source × disk
NoneFailedTo Run source disk sink = source × disk × sink

-- one of them comes at most: so each comes exactly where its cause holds, but for faults and memory
abbrev pub OneReplayOutcome : Type 0
OneReplayOutcome = (words : List (List ℕ)) (left : Option (List ℕ)) (zones : Option Image) →
    AreToldTo Run left zones → CausesExclude (replay_course words left zones) IsReplayDecided

-- all that a run prints, and its exit status
abbrev pub replay_telling : List HistoryEntry → Outcome → Telling
replay_telling history outcome =
    record { text = run_output history outcome; status = outcome_status outcome }

-- no memory is needed for it: there are no entries, and the last line tells no number
abbrev pub IsFixedRun : List HistoryEntry → Outcome → Type 0
IsFixedRun history outcome = (history ≡ []) × IsFixedLine outcome

-- a run that ends in this stage may have this status; the status tells that a run came to this stage; it tells
-- that it ended before
abbrev pub ReplayMayEnd : RunStage → ℕ → Type 0
ReplayMayEnd stage status = MayEnd ReplayComes outcome_status stage status

abbrev pub ReplayCameTo : RunStage → ℕ → Type 0
ReplayCameTo stage status = CameTo ReplayComes outcome_status stage status

abbrev pub ReplayEndedBefore : RunStage → ℕ → Type 0
ReplayEndedBefore stage status = EndedBefore ReplayComes outcome_status stage status

-- how a run ends whose disk can't be opened
abbrev pub open_outcome : OpenFault → Outcome
open_outcome opens.NoSuperBlock = outcomes.NoVolume volumes.NoSuperBlock
open_outcome opens.Layout = outcomes.NoVolume volumes.Layout
open_outcome (opens.BadMap chunk) = outcomes.NoVolume (volumes.BadMap chunk)
open_outcome (opens.BadBits zone block) = outcomes.NoVolume (volumes.BadBits zone block)
open_outcome opens.Device = no_device
open_outcome opens.Memory = no_memory

-- what stopped a run, where something did
abbrev pub stop_of : Outcome → Option Why
stop_of (outcomes.Ended endings.Ok) = None
stop_of (outcomes.Ended (endings.Stopped why)) = Some why
stop_of outcome = None

-- how a run ends whose script can't be read
abbrev pub script_outcome : ScriptFault → Outcome
script_outcome (scripts.Bad line why) = outcomes.BadScript line why
script_outcome scripts.Source = outcomes.Source
script_outcome scripts.Memory = no_memory

-- What statuses tell of the stages: 0, 6 and 8 that the run came to its last one, 3 and 4 that it came to
-- opening, 1, 2 and 5 that it ended before. 7 tells none.
pub record StatusesTell (status : ℕ) : Type 0 where
  pub run : (status ≡ 0) ⊎ (status ≡ 6) ⊎ (status ≡ 8) → ReplayCameTo Run status
  pub opening : (status ≡ 3) ⊎ (status ≡ 4) → ReplayCameTo Opening status
  pub before : (status ≡ 1) ⊎ (status ≡ 2) ⊎ (status ≡ 5) → ReplayEndedBefore Opening status

abbrev pub EachStatusTells : Type 0
EachStatusTells = (status : ℕ) → StatusesTell status
