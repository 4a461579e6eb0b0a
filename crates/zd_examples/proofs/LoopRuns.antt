-- Two whole runs of a session that has just begun.
use Rattle.std.proofs.Common.{◌≡◌, ◌≢◌, inl, ℕ, zero, suc, ◌+◌, ◌<◌, ◌≤◌, true, false, [], ◌∷◌, Some, None, refl}
use Rattle.std.proofs.Common.{sym}
use Rattle.std.proofs.Common.{◌∙◌, true≢false, arith}
use Rattle.zd_base.specs.declared.steps.Stepped.TheVariants.{Over}
use Rattle.zd_alloc.specs.Zones.{use_at}
use Rattle.zd_alloc.specs.declared.uses.ZoneUse.{ZoneUse}
use Rattle.zd_alloc.specs.declared.uses.ZoneUse.TheVariants.{Meta, Free, Held}
use Rattle.zd_model.specs.Tables.{entry_in_map}
use Rattle.zd_model.specs.declared.metadata.MapEntry.{MapEntry}
use Rattle.zd_progress.specs.LoneRuns.{IsSoundRun, IsWaitingRun, LoneRun}
use Rattle.zd_progress.specs.LoneSteps.EntryCause.{flush, ready}
use Rattle.zd_progress.specs.LoneSteps.LoneStep.{copies, finishes, starts}
use Rattle.zd_progress.specs.Measures.Lessens.{ends, goes_on}
use Rattle.zd_progress.specs.Measures.{Lessens as lessens}
use Rattle.zd_progress.specs.Paces.{IsFreshLoop, IsMadeStep, IsWholeRun}
use Rattle.zd_progress.specs.Paces.PacesOn.{enters, steps}
use Rattle.zd_progress.specs.Stocks.{IsNamedIn, IsStocked}
use Rattle.zd_progress.specs.Stocks.IsPickedFor.{gives}
use Rattle.zd_examples.specs.Loops.{flush_begun, flush_over, flush_run, lacking_run, move_ahead, move_begun, move_done}
use Rattle.zd_examples.specs.Loops.{move_going, move_over, moved_run, moving_run, mapped_to, stock_of, without_zone}

-- each data zone that is held is named, and no chunk has a buffer
module _ (third fourth fifth : ZoneUse) (e f : MapEntry) (flat_e : e.buffer ≡ None) (flat_f : f.buffer ≡ None)
    (data_third : third ≢ Meta) (data_fourth : fourth ≢ Meta) (data_fifth : fifth ≢ Meta)
    (named_third : third ≡ Held → IsNamedIn (e ∷ f ∷ []) 2)
    (named_fourth : fourth ≡ Held → IsNamedIn (e ∷ f ∷ []) 3)
    (named_fifth : fifth ≡ Held → IsNamedIn (e ∷ f ∷ []) 4) where
  no_buffer : (c b : ℕ) → (entry_in_map (e ∷ f ∷ []) c).buffer ≡ Some b → ⊥
  no_buffer zero b is = let g : None ≡ Some b = sym flat_e ∙ is in let h : ⊥ = cc in h
  no_buffer (suc zero) b is = let g : None ≡ Some b = sym flat_f ∙ is in let h : ⊥ = cc in h
  no_buffer (suc (suc c)) b is = let g : None ≡ Some b = is in let h : ⊥ = cc in h

  are_data : (z : ℕ) → 2 ≤ z → z < 5 → use_at (Meta ∷ Meta ∷ third ∷ fourth ∷ fifth ∷ []) z ≢ Meta
  are_data zero low less = absurd (omega (arith, low))
  are_data (suc zero) low less = absurd (omega (arith, low))
  are_data (suc (suc zero)) low less = data_third
  are_data (suc (suc (suc zero))) low less = data_fourth
  are_data (suc (suc (suc (suc zero)))) low less = data_fifth
  are_data (suc (suc (suc (suc (suc z))))) low less = absurd (omega (arith, less))

  are_named : (z : ℕ) → 2 ≤ z → z < 5 → use_at (Meta ∷ Meta ∷ third ∷ fourth ∷ fifth ∷ []) z ≡ Held
      → IsNamedIn (e ∷ f ∷ []) z
  are_named zero low less = absurd (omega (arith, low))
  are_named (suc zero) low less = absurd (omega (arith, low))
  are_named (suc (suc zero)) low less = named_third
  are_named (suc (suc (suc zero))) low less = named_fourth
  are_named (suc (suc (suc (suc zero)))) low less = named_fifth
  are_named (suc (suc (suc (suc (suc z))))) low less = absurd (omega (arith, less))

  stocked : IsStocked 2 (stock_of third fourth fifth (e ∷ f ∷ []))
  stocked = record {
    conventional = omega arith;
    kinds = omega arith;
    data_zones = are_data;
    held = are_named;
    buffers = λ c b is. absurd (no_buffer c b is);
  }

free_not_held : Free ≡ Held → ⊥
free_not_held e = cc

free_data : Free ≢ Meta
free_data e = cc

held_data : Held ≢ Meta
held_data e = cc

-- a run in which something is ready, and one in which a zone is wanted
ready_waits : (r : LoneRun) → r.is_ready ≡ true → r.is_wanted ≡ false → IsWaitingRun r
ready_waits r is unwanted = record {
  some = λ off. absurd (true≢false (sym is ∙ off));
  none_free = λ wanted. absurd (true≢false (sym wanted ∙ unwanted));
}

flush_stocked : IsStocked 2 flush_run.stock
flush_stocked = stocked Free Free Free without_zone without_zone refl refl free_data free_data free_data
    (λ e. absurd (free_not_held e)) (λ e. absurd (free_not_held e)) (λ e. absurd (free_not_held e))

pub flush_fresh : IsFreshLoop flush_begun
flush_fresh = record {
  is = record {
    alone = record {
      waiting = record {
        some = λ off idle none. absurd (true≢false none);
        none_free = λ wanted. absurd (true≢false (sym wanted));
      };
      stocked = λ none. flush_stocked;
      beside = λ w e. absurd (let g : ⊥ = cc in g);
      few_calls = omega arith;
      commit = omega arith;
      dirty = omega arith;
    };
    none = refl;
    no_calls = refl;
    no_jobs = refl;
    no_commits = refl;
  };
  some = omega arith;
  counted = record { all = refl; generation = omega arith };
  going = refl;
  nobody = refl;
}

flush_entered : IsMadeStep flush_begun flush_over
flush_entered = record {
  limits = record {
    most = refl;
    first = refl;
    job_calls = refl;
    commit_calls = refl;
    opening = refl;
    pieces = refl;
    others = refl;
  };
  within = record { flight = omega arith; jobs = omega arith; commit = omega arith; copies = omega arith };
  lessens = lessens.enters (omega arith);
  paces = λ alone. enters (record {
    cause = flush refl refl refl;
    no_job = λ none. refl;
    commit = omega arith;
    jobs = refl;
    calls = omega arith;
  }) 0 refl refl (omega arith);
  sound = λ alone. record {
    waiting = ready_waits flush_over.pace.run refl refl;
    stocked = λ none. flush_stocked;
    dirty = omega arith;
  };
  going = refl;
}

pub flush_whole : IsWholeRun flush_begun flush_over
flush_whole = record {
  count = 1;
  before = flush_over;
  steps = (flush_over, flush_entered, refl);
  answer = Over;
  is_last = tt;
  ends = (refl, refl, refl);
}

-- a chunk of these two entries has the zone
names_first : (z : ℕ) (f : MapEntry) → IsNamedIn (mapped_to z ∷ f ∷ []) z
names_first z f = record { chunk = 0; inside = omega arith; names = inl refl }

names_second : (z : ℕ) (e : MapEntry) → IsNamedIn (e ∷ mapped_to z ∷ []) z
names_second z e = record { chunk = 1; inside = omega arith; names = inl refl }

lacking_stocked : IsStocked 2 lacking_run.stock
lacking_stocked = stocked Held Free Free (mapped_to 2) without_zone refl refl held_data free_data free_data
    (λ e. names_first 2 without_zone) (λ e. absurd (free_not_held e)) (λ e. absurd (free_not_held e))

moved_stocked : IsStocked 2 moved_run.stock
moved_stocked = stocked Free Held Free (mapped_to 3) without_zone refl refl free_data held_data free_data
    (λ e. absurd (free_not_held e)) (λ e. names_first 3 without_zone) (λ e. absurd (free_not_held e))

over_stocked : IsStocked 2 move_over.pace.run.stock
over_stocked = stocked Held Held Free (mapped_to 3) (mapped_to 2) refl refl held_data held_data free_data
    (λ e. names_second 2 (mapped_to 3)) (λ e. names_first 3 (mapped_to 2)) (λ e. absurd (free_not_held e))

pub move_fresh : IsFreshLoop move_begun
move_fresh = record {
  is = record {
    alone = record {
      waiting = record { some = λ off idle none. refl; none_free = λ wanted. refl };
      stocked = λ none. lacking_stocked;
      beside = λ w e. absurd (let g : ⊥ = cc in g);
      few_calls = omega arith;
      commit = omega arith;
      dirty = omega arith;
    };
    none = refl;
    no_calls = refl;
    no_jobs = refl;
    no_commits = refl;
  };
  some = omega arith;
  counted = record { all = refl; generation = omega arith };
  going = refl;
  nobody = refl;
}

-- beside a job a zone is wanted, and none is free
moving_sound : (left calls : ℕ) → IsSoundRun 2 18 (moving_run left calls)
moving_sound left calls = record {
  waiting = record { some = λ off idle none. refl; none_free = λ wanted. refl };
  stocked = λ none. absurd (let g : ⊥ = cc in g);
  dirty = omega arith;
}

move_starts : IsMadeStep move_begun (move_going 18 (moving_run 8 0))
move_starts = record {
  limits = record {
    most = refl;
    first = refl;
    job_calls = refl;
    commit_calls = refl;
    opening = refl;
    pieces = refl;
    others = refl;
  };
  within = record { flight = omega arith; jobs = omega arith; commit = omega arith; copies = omega arith };
  lessens = goes_on refl refl (omega arith);
  paces = λ alone. steps (starts (record {
    not_ready = refl;
    no_flush = refl;
    no_commit = refl;
    no_limbo = refl;
    no_job = refl;
    job = move_ahead 8;
    is = refl;
    inside = omega arith;
    picked = gives (omega arith);
    same_ready = refl;
    same_flush = refl;
    same_commit = refl;
    entries = refl;
    conv = refl;
    same_free = refl;
    same_limbo = refl;
    commits = refl;
    jobs = refl;
    later = omega arith;
    calls = omega arith;
  })) refl (omega arith) refl (omega arith);
  sound = λ alone. moving_sound 8 0;
  going = refl;
}

-- its block is read, or written by a call
move_copies : (copied left calls later made : ℕ) → copied < 19 → calls ≤ made → made + later ≤ calls + left
    → IsMadeStep (move_going (suc copied) (moving_run left calls)) (move_going copied (moving_run later made))
move_copies copied left calls later made few up fewer = record {
  limits = record {
    most = refl;
    first = refl;
    job_calls = refl;
    commit_calls = refl;
    opening = refl;
    pieces = refl;
    others = refl;
  };
  within = record { flight = omega arith; jobs = omega arith; commit = omega arith; copies = omega (arith, few) };
  lessens = goes_on refl refl (omega arith);
  paces = λ alone. steps (copies (record {
    job = move_ahead left;
    left = later;
    was = refl;
    is = refl;
    same_ready = refl;
    same_flush = refl;
    same_commit = refl;
    stock = refl;
    commits = refl;
    jobs = refl;
    later = up;
    calls = fewer;
  })) refl (omega arith) refl (omega arith);
  sound = λ alone. moving_sound later made;
  going = refl;
}

-- the chunk has its new zone, and its old one is free at once
move_finishes : IsMadeStep (move_going 16 (moving_run 7 1)) move_done
move_finishes = record {
  limits = record {
    most = refl;
    first = refl;
    job_calls = refl;
    commit_calls = refl;
    opening = refl;
    pieces = refl;
    others = refl;
  };
  within = record { flight = omega arith; jobs = omega arith; commit = omega arith; copies = omega arith };
  lessens = ends refl refl (omega arith);
  paces = λ alone. steps (finishes (record {
    job = move_ahead 7;
    by_commit = false;
    was = refl;
    is = refl;
    inside = omega arith;
    kinds = omega arith;
    same_flush = refl;
    same_commit = refl;
    entries = refl;
    conv = refl;
    zones = refl;
    commits = refl;
    jobs = refl;
    calls = refl;
  })) refl (omega arith) refl (omega arith);
  sound = λ alone. record {
    waiting = ready_waits moved_run refl refl;
    stocked = λ none. moved_stocked;
    dirty = omega arith;
  };
  going = refl;
}

write_entered : IsMadeStep move_done move_over
write_entered = record {
  limits = record {
    most = refl;
    first = refl;
    job_calls = refl;
    commit_calls = refl;
    opening = refl;
    pieces = refl;
    others = refl;
  };
  within = record { flight = omega arith; jobs = omega arith; commit = omega arith; copies = omega arith };
  lessens = lessens.enters (omega arith);
  paces = λ alone. enters (record {
    cause = ready refl refl;
    no_job = λ none. refl;
    commit = omega arith;
    jobs = refl;
    calls = omega arith;
  }) 0 refl refl (omega arith);
  sound = λ alone. record {
    waiting = ready_waits move_over.pace.run refl refl;
    stocked = λ none. over_stocked;
    dirty = omega arith;
  };
  going = refl;
}

pub move_whole : IsWholeRun move_begun move_over
move_whole = record {
  count = 5;
  before = move_over;
  steps = (
    move_going 18 (moving_run 8 0),
    move_starts,
    (
      move_going 17 (moving_run 8 0),
      move_copies 17 8 0 8 0 (omega arith) (omega arith) (omega arith),
      (
        move_going 16 (moving_run 7 1),
        move_copies 16 8 0 7 1 (omega arith) (omega arith) (omega arith),
        (move_done, move_finishes, (move_over, write_entered, refl)),
      ),
    ),
  );
  answer = Over;
  is_last = tt;
  ends = (refl, refl, refl);
}
