-- The arguments of zreplay_one.
use Rattle.std.proofs.Common.{◌≡◌, refl, true, List}
use Rattle.std.specs.List.{IsDistinct}
use Rattle.std.specs.Prelude.{[], ◌∷◌, codes}
use Rattle.clap.specs.Simple.{built}
use Rattle.clap.specs.Faults.{is_simple_and_free}
use Rattle.zd_commands.specs.Replays.{alone_options, replay_places}
use Rattle.zd_commands.specs.Table.{app_with}
use Rattle.zd_commands.proofs.Rows.{place_rule}
use Rattle.zd_commands.proofs.Programs.{IsProgram}

pub simple : is_simple_and_free (app_with [] alone_options replay_places) ≡ true
simple = refl

pub program : IsProgram [] alone_options replay_places
unfolding IsDistinct
program = record {
  rules = (built (app_with [] alone_options replay_places)).top.rules;
  place_rules = place_rule (codes "image") 1 ∷ place_rule (codes "script") 2 ∷ [];
  top = refl;
  subs = refl;
  split = refl;
  flag = tt;
  option = (refl, (refl, tt));
  own = (refl, (refl, tt));
  no_long = λ n. refl;
  short = λ c. refl;
  placed = (refl, refl, (refl, refl, refl));
  named = refl;
  options_named = refl;
  flags_apart = (refl, (refl, tt));
  options_apart = (refl, (refl, tt));
  both_apart = tt;
  optional = (refl, (refl, tt));
  unplaced = tt;
  unplaced_options = (refl, (refl, tt));
  distinct = ((refl, tt), (tt, tt));
  defaults = (refl, (refl, (refl, (refl, tt))));
  checks = λ rows. refl;
  flag_defaults = tt;
  option_defaults = (refl, (refl, tt));
  place_defaults = (refl, (refl, tt));
}
