-- The arguments of dmzadm.
use Rattle.std.proofs.Common.{◌≡◌, refl, true, List}
use Rattle.std.specs.List.{IsDistinct}
use Rattle.clap.specs.Simple.{built}
use Rattle.clap.specs.Faults.{is_simple_and_free}
use Rattle.zd_commands.specs.Admins.{admin_flags, admin_options, admin_places}
use Rattle.zd_commands.specs.Table.{app_with}
use Rattle.zd_commands.proofs.Rows.{place_rule}
use Rattle.zd_commands.proofs.Programs.{IsProgram}
use Rattle.std.specs.Prelude.{[], ◌∷◌, codes}

pub simple : is_simple_and_free (app_with admin_flags admin_options admin_places) ≡ true
simple = refl

pub program : IsProgram admin_flags admin_options admin_places
unfolding IsDistinct
program = record {
  rules = (built (app_with admin_flags admin_options admin_places)).top.rules;
  place_rules = place_rule (codes "image") 1 ∷ [];
  top = refl;
  subs = refl;
  split = refl;
  flag = (refl, (refl, (refl, (refl, (refl, (refl, tt))))));
  option = (refl, (refl, (refl, tt)));
  own = (refl, (refl, (refl, tt)));
  no_long = λ n. refl;
  short = λ c. refl;
  placed = (refl, refl, refl);
  named = refl;
  options_named = refl;
  flags_apart = (refl, tt);
  options_apart = (refl, tt);
  both_apart = (refl, (refl, (refl, (refl, (refl, (refl, tt))))));
  optional = (refl, (refl, (refl, tt)));
  unplaced = (refl, (refl, (refl, (refl, (refl, (refl, tt))))));
  unplaced_options = (refl, (refl, (refl, tt)));
  distinct = (tt, tt);
  defaults = (refl, (refl, (refl, (refl, (refl, (refl, (refl, (refl, (refl, (refl, tt))))))))));
  checks = λ rows. refl;
  flag_defaults = (refl, (refl, (refl, (refl, (refl, (refl, tt))))));
  option_defaults = (refl, (refl, (refl, tt)));
  place_defaults = (refl, tt);
}
