-- One flag of dmzadm, and what it says of the words.
use Rattle.std.proofs.Common.{◌≡◌, ℕ, Bool, true, false, ◌||◌, ◌&&◌, not, refl, sym, ap, ◌∙◌, subst, List, [], ◌∷◌, ◌++◌, codes, Option, Some, None}
use Rattle.std.specs.Str.{bytes_eq}
use Rattle.std.proofs.lemmas.Slice.Eq.{bytes_eq-Decides}
use Rattle.std.proofs.lemmas.Bool.{false≢true}
use Rattle.clap.specs.Walk.{Text}
use Rattle.zd_commands.specs.Admins.{IsOnlyFlag, admin_flags, admin_options}
use Rattle.zd_commands.specs.Founds.{FindsAdmin, flag_name, has_flag, has_only}
use Rattle.zd_commands.specs.Spelling.{Item, apart, flag, flags_of, is_among, joined, plain}
use Rattle.zd_commands.specs.declared.admins.AdminFlag.{AdminFlag}
use Rattle.zd_commands.specs.declared.admins.AdminFlag.TheVariants.{Format, Check, Repair, Relabel, Show, Upgrade}
use Rattle.zd_commands.specs.declared.admins.AdminFound.{AdminFound}
use Rattle.zd_commands.proofs.Lookups.{neither_left}
use Rattle.zd_commands.proofs.Passing.{AllItems}
use Rattle.zd_commands.proofs.Programs.{by_name}

is_same : AdminFlag → AdminFlag → Bool
is_same a b = bytes_eq (flag_name a) (flag_name b)

pub six_facts : (t a b c d e : Bool) → (t && not (a || (b || (c || (d || e))))) ≡ true
    → (t ≡ true) × (a ≡ false) × (b ≡ false) × (c ≡ false) × (d ≡ false) × (e ≡ false)
six_facts false a b c d e h = absurd (false≢true h)
six_facts true a b c d e h =
    let abcde = neither_left a (b || (c || (d || e))) (no (a || (b || (c || (d || e)))) h) in
    let bcde = neither_left b (c || (d || e)) abcde.1 in
    let cde = neither_left c (d || e) bcde.1 in
    let de = neither_left d e cde.1 in
    (refl, abcde.0, bcde.0, cde.0, de.0, de.1)
  where
    no : (x : Bool) → not x ≡ true → x ≡ false
    no true k = sym k
    no false k = refl

-- where a flag is the only one, each flag is found exactly where it is this one
only_to : (a : AdminFlag) (f : AdminFound) → has_only a f ≡ true → (b : AdminFlag) → has_flag b f ≡ is_same a b
unfolding is_same
only_to Format f h Format = (six_facts f.format f.check f.repair f.relabel f.status f.upgrade h).0
only_to Format f h Check = (six_facts f.format f.check f.repair f.relabel f.status f.upgrade h).1
only_to Format f h Repair = (six_facts f.format f.check f.repair f.relabel f.status f.upgrade h).2
only_to Format f h Relabel = (six_facts f.format f.check f.repair f.relabel f.status f.upgrade h).3
only_to Format f h Show = (six_facts f.format f.check f.repair f.relabel f.status f.upgrade h).4
only_to Format f h Upgrade = (six_facts f.format f.check f.repair f.relabel f.status f.upgrade h).5
only_to Check f h Format = (six_facts f.check f.format f.repair f.relabel f.status f.upgrade h).1
only_to Check f h Check = (six_facts f.check f.format f.repair f.relabel f.status f.upgrade h).0
only_to Check f h Repair = (six_facts f.check f.format f.repair f.relabel f.status f.upgrade h).2
only_to Check f h Relabel = (six_facts f.check f.format f.repair f.relabel f.status f.upgrade h).3
only_to Check f h Show = (six_facts f.check f.format f.repair f.relabel f.status f.upgrade h).4
only_to Check f h Upgrade = (six_facts f.check f.format f.repair f.relabel f.status f.upgrade h).5
only_to Repair f h Format = (six_facts f.repair f.format f.check f.relabel f.status f.upgrade h).1
only_to Repair f h Check = (six_facts f.repair f.format f.check f.relabel f.status f.upgrade h).2
only_to Repair f h Repair = (six_facts f.repair f.format f.check f.relabel f.status f.upgrade h).0
only_to Repair f h Relabel = (six_facts f.repair f.format f.check f.relabel f.status f.upgrade h).3
only_to Repair f h Show = (six_facts f.repair f.format f.check f.relabel f.status f.upgrade h).4
only_to Repair f h Upgrade = (six_facts f.repair f.format f.check f.relabel f.status f.upgrade h).5
only_to Relabel f h Format = (six_facts f.relabel f.format f.check f.repair f.status f.upgrade h).1
only_to Relabel f h Check = (six_facts f.relabel f.format f.check f.repair f.status f.upgrade h).2
only_to Relabel f h Repair = (six_facts f.relabel f.format f.check f.repair f.status f.upgrade h).3
only_to Relabel f h Relabel = (six_facts f.relabel f.format f.check f.repair f.status f.upgrade h).0
only_to Relabel f h Show = (six_facts f.relabel f.format f.check f.repair f.status f.upgrade h).4
only_to Relabel f h Upgrade = (six_facts f.relabel f.format f.check f.repair f.status f.upgrade h).5
only_to Show f h Format = (six_facts f.status f.format f.check f.repair f.relabel f.upgrade h).1
only_to Show f h Check = (six_facts f.status f.format f.check f.repair f.relabel f.upgrade h).2
only_to Show f h Repair = (six_facts f.status f.format f.check f.repair f.relabel f.upgrade h).3
only_to Show f h Relabel = (six_facts f.status f.format f.check f.repair f.relabel f.upgrade h).4
only_to Show f h Show = (six_facts f.status f.format f.check f.repair f.relabel f.upgrade h).0
only_to Show f h Upgrade = (six_facts f.status f.format f.check f.repair f.relabel f.upgrade h).5
only_to Upgrade f h Format = (six_facts f.upgrade f.format f.check f.repair f.relabel f.status h).1
only_to Upgrade f h Check = (six_facts f.upgrade f.format f.check f.repair f.relabel f.status h).2
only_to Upgrade f h Repair = (six_facts f.upgrade f.format f.check f.repair f.relabel f.status h).3
only_to Upgrade f h Relabel = (six_facts f.upgrade f.format f.check f.repair f.relabel f.status h).4
only_to Upgrade f h Show = (six_facts f.upgrade f.format f.check f.repair f.relabel f.status h).5
only_to Upgrade f h Upgrade = (six_facts f.upgrade f.format f.check f.repair f.relabel f.status h).0

found_in : (f : AdminFound) (items : List Item) (words : List Text) → FindsAdmin f items words → (b : AdminFlag) → has_flag b f ≡ is_among (flags_of items) (flag_name b)
found_in f items words h Format = h.format
found_in f items words h Check = h.check
found_in f items words h Repair = h.repair
found_in f items words h Relabel = h.relabel
found_in f items words h Show = h.status
found_in f items words h Upgrade = h.upgrade

same_name : (a b : AdminFlag) → is_same a b ≡ true → flag_name b ≡ flag_name a
unfolding is_same
same_name a b h = sym ((bytes_eq-Decides (flag_name a) (flag_name b)).0 h)

-- a flag that stands is one of the program's
flags_known : (items : List Item) (n : Text) → AllItems admin_flags admin_options items → is_among (flags_of items) n ≡ true → is_among admin_flags n ≡ true
flags_known [] n has h = absurd (false≢true h)
flags_known (flag m ∷ items) n has h = go (bytes_eq m n) refl h (flags_known items n has.1)
  where
    go : (b : Bool) → bytes_eq m n ≡ b → (b || is_among (flags_of items) n) ≡ true → (is_among (flags_of items) n ≡ true → is_among admin_flags n ≡ true) → is_among admin_flags n ≡ true
    go true e k next = subst (λ (t : Text). is_among admin_flags t ≡ true) ((bytes_eq-Decides m n).0 e) has.0
    go false e k next = next k
flags_known (apart m v ∷ items) n has h = flags_known items n has.1 h
flags_known (joined m v ∷ items) n has h = flags_known items n has.1 h
flags_known (plain w ∷ items) n has h = flags_known items n has.1 h

same_as_itself : (a : AdminFlag) → is_same a a ≡ true
unfolding is_same
same_as_itself a = (bytes_eq-Decides (flag_name a) (flag_name a)).1 refl

pub to_only_flag : (a : AdminFlag) (f : AdminFound) (items : List Item) (words : List Text) → FindsAdmin f items words → AllItems admin_flags admin_options items
    → has_only a f ≡ true → IsOnlyFlag (flag_name a) items
to_only_flag a f items words finds has h = record {
  stands = sym (found_in f items words finds a) ∙ only_to a f h a ∙ same_as_itself a;
  only = λ other stands. by_name (λ n. is_among (flags_of items) n ≡ true → n ≡ flag_name a) admin_flags other
      (each Format, (each Check, (each Repair, (each Relabel, (each Show, (each Upgrade, tt)))))) (flags_known items other has stands) stands;
}
  where
    each : (b : AdminFlag) → is_among (flags_of items) (flag_name b) ≡ true → flag_name b ≡ flag_name a
    each b stands = same_name a b (sym (only_to a f h b) ∙ found_in f items words finds b ∙ stands)

pub names_differ : (a b : Text) → bytes_eq b a ≡ false → b ≡ a → ⊥
names_differ a b other e = false≢true (sym other ∙ (bytes_eq-Decides b a).1 e)

pub from_only_flag : (a : AdminFlag) (f : AdminFound) (items : List Item) (words : List Text) → FindsAdmin f items words → IsOnlyFlag (flag_name a) items → has_only a f ≡ true
from_only_flag Format f items words finds only = rw (found_in f items words finds Format ∙ only.stands, absent Check Format refl only, absent Repair Format refl only, absent Relabel Format refl only, absent Show Format refl only, absent Upgrade Format refl only) refl
  where
    absent : (b a : AdminFlag) → bytes_eq (flag_name b) (flag_name a) ≡ false → IsOnlyFlag (flag_name a) items → has_flag b f ≡ false
    absent b a differ only = go (has_flag b f) refl
      where
        go : (x : Bool) → has_flag b f ≡ x → x ≡ false
        go true e = absurd (names_differ (flag_name a) (flag_name b) differ (only.only (flag_name b) (sym (found_in f items words finds b) ∙ e)))
        go false e = refl
from_only_flag Check f items words finds only = rw (found_in f items words finds Check ∙ only.stands, absent Format Check refl only, absent Repair Check refl only, absent Relabel Check refl only, absent Show Check refl only, absent Upgrade Check refl only) refl
  where
    absent : (b a : AdminFlag) → bytes_eq (flag_name b) (flag_name a) ≡ false → IsOnlyFlag (flag_name a) items → has_flag b f ≡ false
    absent b a differ only = go (has_flag b f) refl
      where
        go : (x : Bool) → has_flag b f ≡ x → x ≡ false
        go true e = absurd (names_differ (flag_name a) (flag_name b) differ (only.only (flag_name b) (sym (found_in f items words finds b) ∙ e)))
        go false e = refl
from_only_flag Repair f items words finds only = rw (found_in f items words finds Repair ∙ only.stands, absent Format Repair refl only, absent Check Repair refl only, absent Relabel Repair refl only, absent Show Repair refl only, absent Upgrade Repair refl only) refl
  where
    absent : (b a : AdminFlag) → bytes_eq (flag_name b) (flag_name a) ≡ false → IsOnlyFlag (flag_name a) items → has_flag b f ≡ false
    absent b a differ only = go (has_flag b f) refl
      where
        go : (x : Bool) → has_flag b f ≡ x → x ≡ false
        go true e = absurd (names_differ (flag_name a) (flag_name b) differ (only.only (flag_name b) (sym (found_in f items words finds b) ∙ e)))
        go false e = refl
from_only_flag Relabel f items words finds only = rw (found_in f items words finds Relabel ∙ only.stands, absent Format Relabel refl only, absent Check Relabel refl only, absent Repair Relabel refl only, absent Show Relabel refl only, absent Upgrade Relabel refl only) refl
  where
    absent : (b a : AdminFlag) → bytes_eq (flag_name b) (flag_name a) ≡ false → IsOnlyFlag (flag_name a) items → has_flag b f ≡ false
    absent b a differ only = go (has_flag b f) refl
      where
        go : (x : Bool) → has_flag b f ≡ x → x ≡ false
        go true e = absurd (names_differ (flag_name a) (flag_name b) differ (only.only (flag_name b) (sym (found_in f items words finds b) ∙ e)))
        go false e = refl
from_only_flag Show f items words finds only = rw (found_in f items words finds Show ∙ only.stands, absent Format Show refl only, absent Check Show refl only, absent Repair Show refl only, absent Relabel Show refl only, absent Upgrade Show refl only) refl
  where
    absent : (b a : AdminFlag) → bytes_eq (flag_name b) (flag_name a) ≡ false → IsOnlyFlag (flag_name a) items → has_flag b f ≡ false
    absent b a differ only = go (has_flag b f) refl
      where
        go : (x : Bool) → has_flag b f ≡ x → x ≡ false
        go true e = absurd (names_differ (flag_name a) (flag_name b) differ (only.only (flag_name b) (sym (found_in f items words finds b) ∙ e)))
        go false e = refl
from_only_flag Upgrade f items words finds only = rw (found_in f items words finds Upgrade ∙ only.stands, absent Format Upgrade refl only, absent Check Upgrade refl only, absent Repair Upgrade refl only, absent Relabel Upgrade refl only, absent Show Upgrade refl only) refl
  where
    absent : (b a : AdminFlag) → bytes_eq (flag_name b) (flag_name a) ≡ false → IsOnlyFlag (flag_name a) items → has_flag b f ≡ false
    absent b a differ only = go (has_flag b f) refl
      where
        go : (x : Bool) → has_flag b f ≡ x → x ≡ false
        go true e = absurd (names_differ (flag_name a) (flag_name b) differ (only.only (flag_name b) (sym (found_in f items words finds b) ∙ e)))
        go false e = refl

same_flag : (a b : AdminFlag) → is_same a b ≡ true → a ≡ b
unfolding is_same
same_flag Format Format h = refl
same_flag Format Check h = absurd (false≢true h)
same_flag Format Repair h = absurd (false≢true h)
same_flag Format Relabel h = absurd (false≢true h)
same_flag Format Show h = absurd (false≢true h)
same_flag Format Upgrade h = absurd (false≢true h)
same_flag Check Format h = absurd (false≢true h)
same_flag Check Check h = refl
same_flag Check Repair h = absurd (false≢true h)
same_flag Check Relabel h = absurd (false≢true h)
same_flag Check Show h = absurd (false≢true h)
same_flag Check Upgrade h = absurd (false≢true h)
same_flag Repair Format h = absurd (false≢true h)
same_flag Repair Check h = absurd (false≢true h)
same_flag Repair Repair h = refl
same_flag Repair Relabel h = absurd (false≢true h)
same_flag Repair Show h = absurd (false≢true h)
same_flag Repair Upgrade h = absurd (false≢true h)
same_flag Relabel Format h = absurd (false≢true h)
same_flag Relabel Check h = absurd (false≢true h)
same_flag Relabel Repair h = absurd (false≢true h)
same_flag Relabel Relabel h = refl
same_flag Relabel Show h = absurd (false≢true h)
same_flag Relabel Upgrade h = absurd (false≢true h)
same_flag Show Format h = absurd (false≢true h)
same_flag Show Check h = absurd (false≢true h)
same_flag Show Repair h = absurd (false≢true h)
same_flag Show Relabel h = absurd (false≢true h)
same_flag Show Show h = refl
same_flag Show Upgrade h = absurd (false≢true h)
same_flag Upgrade Format h = absurd (false≢true h)
same_flag Upgrade Check h = absurd (false≢true h)
same_flag Upgrade Repair h = absurd (false≢true h)
same_flag Upgrade Relabel h = absurd (false≢true h)
same_flag Upgrade Show h = absurd (false≢true h)
same_flag Upgrade Upgrade h = refl

pub one_flag : (a b : AdminFlag) (f : AdminFound) → has_only a f ≡ true → has_only b f ≡ true → a ≡ b
one_flag a b f h k = same_flag a b (sym (only_to a f h b) ∙ only_to b f k b ∙ same_as_itself b)
