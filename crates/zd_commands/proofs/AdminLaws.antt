-- What a command of dmzadm asks for.
use Rattle.std.proofs.Common.{◌≡◌, ◌≤◌, ℕ, Bool, true, false, refl, sym, ap, ◌∙◌, subst, arith, List, [], ◌∷◌, length, map, codes, Option, Some, None}
use Rattle.std.specs.Prelude.{slice_get, is_some, IfNone, IfSome}
use Rattle.std.specs.Option.{option_copied}
use Rattle.std.specs.Borrow.{Bor}
use Rattle.std.proofs.lemmas.Bool.{false≢true}
use Rattle.clap.specs.Walk.{Row, Text}
use Rattle.zd_commands.specs.Admins.{AsksAdmin, GivesLabel, IsOnlyFlag, TakesOptions, admin_flags, admin_options, admin_places, task_flag}
use Rattle.zd_commands.specs.Founds.{FindsAdmin, FindsRows, IsRead, IsTaskOf, IsUnread, MakesCommand, flag_name, has_only}
use Rattle.zd_commands.specs.Spelling.{Item, value_of}
use Rattle.zd_commands.specs.declared.admins.AdminFlag.{AdminFlag}
use Rattle.zd_commands.specs.declared.admins.AdminFlag.TheVariants.{Format, Check, Repair, Relabel, Show, Upgrade}
use Rattle.zd_commands.specs.declared.admins.AdminFound.{AdminFound}
use Rattle.zd_commands.specs.declared.admins.AdminTask.{AdminTask}
use Rattle.zd_commands.specs.declared.admins.AdminTask.TheVariants as task
use Rattle.zd_commands.proofs.OneFlag.{from_only_flag, names_differ, one_flag, to_only_flag}
use Rattle.zd_commands.proofs.Programs.{each_item}

pub none_copied : (o : Option (Bor Text)) → is_some o ≡ false → option_copied o ≡ None
none_copied None h = refl
none_copied (Some x) h = absurd (false≢true (sym h))

pub no_label_format : (l s u : Option Text) → ((label : Text) → GivesLabel l label → ⊥) → (asked : AdminTask) → IsTaskOf Format asked l s u → ⊥
no_label_format l s u none (task.Format reserved volume label) h = none label h.1.0
no_label_format l s u none task.Check h = names_differ (flag_name Format) (task_flag task.Check) refl h.0
no_label_format l s u none task.Repair h = names_differ (flag_name Format) (task_flag task.Repair) refl h.0
no_label_format l s u none (task.Relabel label) h = names_differ (flag_name Format) (task_flag (task.Relabel label)) refl h.0
no_label_format l s u none task.Show h = names_differ (flag_name Format) (task_flag task.Show) refl h.0
no_label_format l s u none (task.Upgrade volume label) h = names_differ (flag_name Format) (task_flag (task.Upgrade volume label)) refl h.0

pub no_label_upgrade : (l s u : Option Text) → ((label : Text) → GivesLabel l label → ⊥) → (asked : AdminTask) → IsTaskOf Upgrade asked l s u → ⊥
no_label_upgrade l s u none (task.Format reserved volume label) h = names_differ (flag_name Upgrade) (task_flag (task.Format reserved volume label)) refl h.0
no_label_upgrade l s u none task.Check h = names_differ (flag_name Upgrade) (task_flag task.Check) refl h.0
no_label_upgrade l s u none task.Repair h = names_differ (flag_name Upgrade) (task_flag task.Repair) refl h.0
no_label_upgrade l s u none (task.Relabel label) h = names_differ (flag_name Upgrade) (task_flag (task.Relabel label)) refl h.0
no_label_upgrade l s u none task.Show h = names_differ (flag_name Upgrade) (task_flag task.Show) refl h.0
no_label_upgrade l s u none (task.Upgrade volume label) h = none label h.1.0

flag_for : AdminTask → AdminFlag
flag_for (task.Format reserved volume label) = Format
flag_for task.Check = Check
flag_for task.Repair = Repair
flag_for (task.Relabel label) = Relabel
flag_for task.Show = Show
flag_for (task.Upgrade volume label) = Upgrade

flag_is : (asked : AdminTask) → task_flag asked ≡ flag_name (flag_for asked)
unfolding flag_for
flag_is (task.Format reserved volume label) = refl
flag_is task.Check = refl
flag_is task.Repair = refl
flag_is (task.Relabel label) = refl
flag_is task.Show = refl
flag_is (task.Upgrade volume label) = refl

only_word : (plain : List Text) (image : Text) → slice_get plain 0 ≡ Some image → length plain ≤ 1 → plain ≡ image ∷ []
only_word [] image h few = absurd (let e : ◌≡◌ {A = Option Text} None (Some image) = h in cc)
only_word (w ∷ []) image h few = let same : w ≡ image = cc in ap (λ (t : Text). t ∷ []) same
only_word (w ∷ v ∷ plain) image h few = absurd (omega (arith, few))

pub unread_asks : (words : List Text) → IsUnread admin_flags admin_options words 1 → (asked : AdminTask) (image : Text) → AsksAdmin words asked image → ⊥
unread_asks words none asked image a = none a.items a.plain a.reading (subst (λ (ws : List Text). length ws ≤ 1) (sym a.place) (omega arith))

pub other_made : (found : AdminFound) (flag : AdminFlag) (l s u : Option Text) → l ≡ option_copied found.label → s ≡ option_copied found.seq → u ≡ option_copied found.uuid
    → has_only flag found ≡ true → ((asked : AdminTask) → IsTaskOf flag asked l s u → ⊥)
    → (asked : AdminTask) (image : Text) → MakesCommand found asked image → ⊥
other_made found flag l s u el es eu only none asked image m =
    none asked (subst (λ (o : Option Text). IsTaskOf flag asked o s u) (sym el) (subst (λ (o : Option Text). IsTaskOf flag asked (option_copied found.label) o u) (sym es)
    (subst (λ (o : Option Text). IsTaskOf flag asked (option_copied found.label) (option_copied found.seq) o) (sym eu)
    (subst (λ (a : AdminFlag). IsTaskOf a asked (option_copied found.label) (option_copied found.seq) (option_copied found.uuid)) (one_flag m.flag flag found m.only only) m.asked))))

module _ (words : List Text) (rows : List Row) (found : AdminFound) (read : IsRead admin_flags admin_options words 1 (FindsRows admin_flags admin_options admin_places rows))
    (finds : (items : List Item) (plain : List Text) → FindsRows admin_flags admin_options admin_places rows items plain → FindsAdmin found items plain) where
  same_options : (asked : AdminTask) (l s u m t v : Option Text) → l ≡ m → s ≡ t → u ≡ v → TakesOptions asked l s u → TakesOptions asked m t v
  same_options asked l s u m t v el es eu h =
      subst (λ (o : Option Text). TakesOptions asked o t v) el (subst (λ (o : Option Text). TakesOptions asked l o v) es (subst (λ (o : Option Text). TakesOptions asked l s o) eu h))

  pub made_asks : (asked : AdminTask) (image : Text) → MakesCommand found asked image → AsksAdmin words asked image
  made_asks asked image m =
      let found_as = finds read.items read.plain (read.each read.items read.plain read.reading read.few) in
      record {
        items = read.items;
        plain = read.plain;
        reading = read.reading;
        flag = subst (λ (name : Text). IsOnlyFlag name read.items) (sym m.asked.0)
            (to_only_flag m.flag found read.items read.plain found_as (each_item admin_flags admin_options read.items read.reading.has) m.only);
        place = only_word read.plain image (sym found_as.image ∙ m.place) read.few;
        takes = same_options asked (option_copied found.label) (option_copied found.seq) (option_copied found.uuid)
            (value_of (codes "label") read.items) (value_of (codes "seq") read.items) (value_of (codes "uuid") read.items)
            found_as.label found_as.seq found_as.uuid m.asked.1;
      }

  pub asks_made : (asked : AdminTask) (image : Text) → AsksAdmin words asked image → MakesCommand found asked image
  asks_made asked image a =
      let few : length a.plain ≤ 1 = subst (λ (ws : List Text). length ws ≤ 1) (sym a.place) (omega arith) in
      let found_as = finds a.items a.plain (read.each a.items a.plain a.reading few) in
      record {
        flag = flag_for asked;
        only = from_only_flag (flag_for asked) found a.items a.plain found_as (subst (λ (name : Text). IsOnlyFlag name a.items) (flag_is asked) a.flag);
        asked = (
          flag_is asked,
          same_options asked (value_of (codes "label") a.items) (value_of (codes "seq") a.items) (value_of (codes "uuid") a.items)
              (option_copied found.label) (option_copied found.seq) (option_copied found.uuid) (sym found_as.label) (sym found_as.seq) (sym found_as.uuid) a.takes,
        );
        place = found_as.image ∙ ap (λ (ws : List Text). slice_get ws 0) a.place;
      }
