-- Names, and the words that begin with them.
use Rattle.std.proofs.Common.{◌≡◌, ◌≢◌, ℕ, zero, suc, ◌+◌, ◌<◌, Bool, cond, true, false, not, ◌||◌, ◌&&◌, ◌==◌, refl, sym, ap, ◌∙◌, subst, arith, add-one, one-add, List, [], ◌∷◌, ◌++◌, Option, Some, None, length, get_or, take, drop}
use Rattle.std.specs.List.{list_all, list_any, prefix_len, before_first, after_first}
use Rattle.std.specs.Str.{bytes_eq, chars}
use Rattle.std.proofs.lemmas.Slice.Eq.{bytes_eq-Decides}
use Rattle.std.proofs.lemmas.Bool.{false≢true}
use Rattle.std.proofs.lemmas.Bool.Decides.{nat_tests}
use Rattle.std.proofs.lemmas.Str.{chars_from_encodes, IsUtf8-past_char}
use Rattle.std.specs.Str.{IsUtf8, encode_utf8_all}
use Rattle.clap.specs.Lexer.{has_byte, name_and_value}
use Rattle.clap.specs.Walk.{Text}
use Rattle.clap.proofs.CutLemmas.{Lacks, before_first-Lacks}
use Rattle.clap.proofs.LexerLemmas.{name_and_value-at, name_and_value-without}
use Rattle.zd_commands.specs.Spelling.{is_among}

-- a name isn't empty, and has no `=`
abbrev pub is_name : Text → Bool
is_name [] = false
is_name (x ∷ xs) = not (has_byte 61 (x ∷ xs))

is_false : (b : Bool) → not b ≡ true → b ≡ false
is_false true h = sym h
is_false false h = refl

left_false : (a b : Bool) → (a || b) ≡ false → a ≡ false
left_false true b h = h
left_false false b h = refl

right_false : (a b : Bool) → (a || b) ≡ false → b ≡ false
right_false true b h = absurd (false≢true (sym h))
right_false false b h = h

lacks : (text : Text) → has_byte 61 text ≡ false → Lacks 61 text
lacks [] h i lt = absurd (omega (arith, lt))
lacks (x ∷ xs) h zero lt = let ne : (x == 61) ≡ false = left_false (x == 61) (has_byte 61 xs) h in grind (arith, nat_tests)
lacks (x ∷ xs) h (suc i) lt = lacks xs (right_false (x == 61) (has_byte 61 xs) h) i (omega (arith, lt))

pub name_alone : (x : ℕ) (xs : Text) → is_name (x ∷ xs) ≡ true → name_and_value (x ∷ xs) ≡ (x ∷ xs, None)
name_alone x xs h = name_and_value-without (x ∷ xs) (lacks (x ∷ xs) (is_false (has_byte 61 (x ∷ xs)) h))

pub name_valued : (x : ℕ) (xs value : Text) → is_name (x ∷ xs) ≡ true → name_and_value (x ∷ (xs ++ 61 ∷ value)) ≡ (x ∷ xs, Some value)
name_valued x xs value h = name_and_value-at (x ∷ xs) value (lacks (x ∷ xs) (is_false (has_byte 61 (x ∷ xs)) h))

-- a text is its name, with its value behind `=`
abbrev pub IsNamed : Text → Text × Option Text → Type 0
IsNamed text (name, None) = text ≡ name
IsNamed text (name, Some value) = text ≡ name ++ 61 ∷ value

abbrev is_equals : ℕ → Bool
is_equals x = x == 61

split : (text : Text) → has_byte 61 text ≡ true → text ≡ before_first is_equals text ++ 61 ∷ after_first is_equals text
split [] h = absurd (false≢true h)
split (x ∷ xs) h = go (x == 61) refl h (split xs)
  where
    go : (b : Bool) → (x == 61) ≡ b → (b || has_byte 61 xs) ≡ true → (has_byte 61 xs ≡ true → xs ≡ before_first is_equals xs ++ 61 ∷ after_first is_equals xs)
        → x ∷ xs ≡ take (cond (not b) (1 + prefix_len (λ y. not (y == 61)) xs) 0) (x ∷ xs)
        ++ 61 ∷ drop (cond (not b) (1 + prefix_len (λ y. not (y == 61)) xs) 0 + 1) (x ∷ xs)
    go true e k next = let same : x ≡ 61 = grind (arith, nat_tests) in ap (λ y. y ∷ xs) same
    go false e k next =
        rw (one-add (prefix_len (λ y. not (y == 61)) xs), add-one (suc (prefix_len (λ y. not (y == 61)) xs)))
        (ap (λ (t : Text). x ∷ t) (next k ∙ ap (λ (n : ℕ). before_first is_equals xs ++ 61 ∷ drop n xs) (add-one (prefix_len (λ y. not (y == 61)) xs))))

pub named : (text : Text) → IsNamed text (name_and_value text)
named text = go (has_byte 61 text) refl
  where
    go : (b : Bool) → has_byte 61 text ≡ b → IsNamed text (before_first is_equals text, cond b (Some (after_first is_equals text)) None)
    go true e = split text e
    go false e = sym (before_first-Lacks 61 text (lacks text e))

-- a name that is one of some passes what they all pass
pub among_passes : (p : Text → Bool) (names : List Text) (n : Text) → list_all p names ≡ true → is_among names n ≡ true → p n ≡ true
among_passes p [] n all h = absurd (false≢true h)
among_passes p (m ∷ names) n all h = go (bytes_eq m n) refl h (both (p m) (list_all p names) all) (among_passes p names n)
  where
    both : (a b : Bool) → (a && b) ≡ true → (a ≡ true) × (b ≡ true)
    both true b k = (refl, k)
    both false b k = absurd (false≢true k)

    go : (b : Bool) → bytes_eq m n ≡ b → (b || is_among names n) ≡ true → (p m ≡ true) × (list_all p names ≡ true)
        → (list_all p names ≡ true → is_among names n ≡ true → p n ≡ true) → p n ≡ true
    go true e k all next = subst (λ (t : Text). p t ≡ true) ((bytes_eq-Decides m n).0 e) all.0
    go false e k all next = next all.1 k

-- the characters of a text that isn't empty begin with one
pub first_char : (y : ℕ) (ys : Text) → IsUtf8 (y ∷ ys) → (c : ℕ) × (cs : Text) × (chars (y ∷ ys) ≡ c ∷ cs)
first_char y ys utf = go utf.0 utf.1.1 (chars_from_encodes utf.0 (y ∷ ys) utf utf.1.1)
  where
    go : (cs : Text) → encode_utf8_all cs ≡ y ∷ ys → cs ≡ chars (y ∷ ys) → (c : ℕ) × (ds : Text) × (chars (y ∷ ys) ≡ c ∷ ds)
    go [] e is = absurd (let e2 : ◌≡◌ {A = Text} [] (y ∷ ys) = e in cc)
    go (c ∷ cs) e is = (c, cs, sym is)

-- what follows a first byte below 128
pub after_dash : (w : Text) → IsUtf8 (45 ∷ w) → IsUtf8 w
unfolding lib.Utf8.encode
after_dash w utf = IsUtf8-past_char (45 ∷ w) w 45 utf refl
