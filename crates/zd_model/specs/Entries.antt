-- Replies and entries as definitions see them: without the room of their bytes.
use Rattle.zd_model.specs.Plain.{Answer}
use Rattle.zd_model.specs.Plain.{Answer as answers}
use Rattle.zd_model.specs.History.{HistoryEntry}
use Rattle.zd_model.specs.declared.requests.Reply.{Reply}
use Rattle.zd_model.specs.declared.requests.Reply.TheVariants.{Got, Done, Range, Fault}
use Rattle.zd_model.specs.declared.requests.Entry.{Entry}

-- a read's bytes without their room
abbrev pub answer_of : Reply → Answer
answer_of (Got bytes) = answers.Got bytes.items
answer_of Done = answers.Done
answer_of Range = answers.Range
answer_of Fault = answers.Fault

-- an entry with its answer so
abbrev pub shown_entry : Entry → HistoryEntry
shown_entry e = record {
  caller = e.caller;
  request = e.request;
  piece = e.piece;
  what = e.what;
  reply = answer_of e.reply;
  at = e.at;
}
