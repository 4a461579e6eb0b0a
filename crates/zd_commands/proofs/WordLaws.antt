-- What the words of options say.
use Rattle.std.proofs.Common.{Bool, true, false, ◌≡◌, ℕ, ◌<◌, ◌≤◌, ◌-◌, ◌^◌, List, [], ◌++◌, drop, length, replicate, subst, map, ap₂, Option, Some, None, Result, Ok, Err, IfOk, IsOk, refl, sym, ap, ◌∙◌, arith}
use Rattle.std.specs.Prelude.{◌≢◌, ◌↔◌, All, IfNone, IfSome, not}
use Rattle.std.specs.Result.{result_ok}
use Rattle.std.specs.Str.{bytes_eq}
use Rattle.std.proofs.lemmas.Bool.{false≢true}
use Rattle.std.proofs.lemmas.Slice.Eq.{bytes_eq-Decides}
use Rattle.std.specs.Str.Parse.{ParsesUnsigned}
use Rattle.std.proofs.lemmas.Fmt.{parse-decimal}
use Rattle.std.proofs.lemmas.List.{drop-replicate}
use Rattle.zd_model.specs.Text.{numeral}
use Rattle.zd_model.proofs.Decimals.{numeral_decimal}
use Rattle.zd_commands.specs.Admins.{SpellsLabel}

-- a number's text is read as the number
pub reads_number : {E : Type 0} (n : ℕ) (word : List ℕ) (r : Result ℕ E) → n < 2 ^ 64 → word ≡ numeral n → ParsesUnsigned 64 10 word r → r ≡ Ok n
reads_number n word r small is parses = parse-decimal 64 n word r small small (is ∙ numeral_decimal n small) parses

-- the identifier that a text was read as, or that it is none
pub read_as_volume : {E : Type 0} (r : Result (List ℕ) E) (p : Option (List ℕ)) → (IsOk r ↔ ((u : List ℕ) × (p ≡ Some u))) → IfOk r (λ u. Some u ≡ p) → result_ok r ≡ p
read_as_volume (Ok u) p ok bytes = bytes
read_as_volume (Err e) None ok bytes = refl
read_as_volume (Err e) (Some u) ok bytes = absurd (false≢true (ok.1 (u, refl)))

pub found_equal : (xs ys : List ℕ) (r : Bool) → r ≡ not (bytes_eq xs ys) → r ≡ false → xs ≡ ys
found_equal xs ys r is e = (bytes_eq-Decides xs ys).0 (by (bytes_eq xs ys) (sym is ∙ e))
  where
    by : (b : Bool) → not b ≡ false → b ≡ true
    by true h = refl
    by false h = sym h

pub found_unequal : (xs ys : List ℕ) (r : Bool) → r ≡ not (bytes_eq xs ys) → r ≡ true → xs ≡ ys → ⊥
found_unequal xs ys r is e same = by (bytes_eq xs ys) ((bytes_eq-Decides xs ys).1 same) (sym is ∙ e)
  where
    by : (b : Bool) → b ≡ true → not b ≡ true → ⊥
    by true h k = false≢true k
    by false h k = false≢true h

pub same_ok : {E : Type 0} (m n : ℕ) → ◌≡◌ {A = Result ℕ E} (Ok m) (Ok n) → m ≡ n
same_ok m n e = cc

-- a label's bytes, and zeros behind them
pub is_label_word : (word bytes copied : List ℕ) → bytes ≡ word → (length bytes ≤ 32) × All (λ b. b ≢ 0) bytes → copied ≡ bytes
    → SpellsLabel word (copied ++ drop (length bytes) (replicate 32 0))
is_label_word word bytes copied is label same = record {
  short = subst (λ (w : List ℕ). length w ≤ 32) is label.0;
  nonzero = subst (λ (w : List ℕ). All (λ b. b ≢ 0) w) is label.1;
  padded = ap₂ (λ (v w : List ℕ). v ++ w) (same ∙ is) (drop-replicate (length bytes) 32 0 ∙ ap (λ (w : List ℕ). replicate (32 - length w) 0) is);
}

-- where nothing was found for one reason, it wasn't for another
pub none_as : {T P Q : Type 0} (o : Option T) → (P → Q) → IfNone o P → IfNone o Q
none_as None f h = f h
none_as (Some x) f h = tt

pub some_as : {T : Type 0} (o : Option T) (P Q : T → Type 0) → ((x : T) → P x → Q x) → IfSome o P → IfSome o Q
some_as None P Q f h = tt
some_as (Some x) P Q f h = f x h

pub at_some : {T : Type 0} (o : Option T) (x : T) (P : T → Type 0) → o ≡ Some x → IfSome o P → P x
at_some {T} o x P is h = subst (λ (o : Option T). IfSome o P) is h
