-- What was read of a source so far, its end, and too much.
use Rattle.std.proofs.Common.{◌≡◌, ℕ, ◌≤◌, List, [], ◌++◌, length, Option, Some, refl, sym, ap, ◌∙◌, arith}
use Rattle.std.proofs.lemmas.List.{append-nil, length-append, nil_from_length}
use Rattle.zd_model.specs.Script.RefusesScript.{size}
use Rattle.zd_model.specs.declared.texts.BadLine.TheVariants.{TooLong}
use Rattle.zd_script.specs.Read.{ReadsAll, ReadsOn, ReadsTooMany}

-- what was read and what is left are all there was
abbrev pub Splits : Option (List ℕ) → Option (List ℕ) → List ℕ → Type 0
Splits first here all = (bytes : List ℕ) → first ≡ Some bytes → (rest : List ℕ) × (here ≡ Some rest) × (all ++ rest ≡ bytes)

-- all bytes were read, and none is left
record HasEnd (after : Option (List ℕ)) (bytes more : List ℕ) : Type 0 where
  whole : more ≡ bytes
  end : after ≡ Some []

has_end : (first here after : Option (List ℕ)) (all more : List ℕ) (n : ℕ) → Splits first here all → ReadsOn here after n all more → n ≡ 0 → (bytes : List ℕ) → first ≡ Some bytes → HasEnd after bytes more
has_end first here after all more n splits reads none bytes told =
    let before = splits bytes told in
    let front = reads.front before.0 before.1 in
    let count = reads.count in
    let lengths = ap length front.2 in
    let ended = ap length (reads.end none before.0 before.1) in
    let empty : front.0 ≡ [] = nil_from_length front.0 (omega (arith, length-append more front.0, length-append all before.0)) in
    record {
      whole = sym (append-nil more) ∙ ap (λ xs. more ++ xs) (sym empty) ∙ front.2 ∙ before.2;
      end = front.1 ∙ ap Some empty;
    }

-- where nothing more was read, all was
pub all_read : (first here after : Option (List ℕ)) (all more : List ℕ) (n : ℕ) → Splits first here all → ReadsOn here after n all more → n ≡ 0 → length all ≤ 67_108_864 → ReadsAll first after more
all_read first here after all more n splits reads none few = record {
  size = let count = reads.count in omega arith;
  bytes = λ bytes told. (has_end first here after all more n splits reads none bytes told).whole;
  end = λ bytes told. (has_end first here after all more n splits reads none bytes told).end;
}

-- one byte more than a script may have was read
pub too_many : (first here : Option (List ℕ)) (all : List ℕ) → Splits first here all → length all ≡ 67_108_865 → ReadsTooMany first here 0 TooLong
too_many first here all splits long = record {
  whole = refl;
  long = refl;
  refused = λ bytes told.
      let before = splits bytes told in
      let lengths = ap length before.2 in
      size (omega (arith, length-append all before.0));
  stops = λ bytes told rest left.
      let before = splits bytes told in
      let lengths = ap length before.2 in
      let same : before.0 ≡ rest = let both = sym before.1 ∙ left in cc in
      let counts = ap length same in
      omega (arith, length-append all before.0);
}
