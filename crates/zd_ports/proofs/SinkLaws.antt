-- What a sink took, one call on.
use Rattle.std.proofs.Common.{◌≡◌, ◌+◌, ◌-◌, ◌≤◌, ℕ, List, [], ◌++◌, take, drop, length, Some, IfSome, Option, refl, sym, ◌∙◌, ap, arith, append_assoc, take-append-drop, inl, inr}
use Rattle.std.proofs.Math.Seq.{take-add}
use Rattle.std.proofs.lemmas.List.{take-take}
use Rattle.std.proofs.lemmas.Option.{IfSome_then, MatchOption-at_some}
use Rattle.std.specs.Prelude.{Result, Ok, Err, is_ok, IsOk, OnErr, Bool, true}
use Rattle.std.proofs.lemmas.Bool.{false≢true}
use Rattle.zd_base.specs.Faults.{Rose}
use Rattle.zd_ports.specs.Taking.{Takes, IsTaken}

-- the first so many bytes stand after what a sink held, where it told that
abbrev pub HoldsMore : Option (List ℕ) → Option (List ℕ) → List ℕ → ℕ → Type 0
HoldsMore old here bytes at = IfSome old (λ before. here ≡ Some (before ++ take at bytes))

-- n more of the bytes from `at` on
pub held_more : (old here after : Option (List ℕ)) (bytes : List ℕ) (at n : ℕ)
    → HoldsMore old here bytes at
    → IfSome here (λ now. after ≡ Some (now ++ take n (take (length bytes - at) (drop at bytes))))
    → at + n ≤ length bytes
    → HoldsMore old after bytes (at + n)
held_more old here after bytes at n held wrote fits = IfSome_then old held (λ before is.
    MatchOption-at_some _ (λ now. after ≡ Some (now ++ take n (take (length bytes - at) (drop at bytes)))) (before ++ take at bytes) is wrote
    ∙ ap Some (append_assoc before (take at bytes) (take n (take (length bytes - at) (drop at bytes)))
    ∙ ap (λ (l : List ℕ). before ++ (take at bytes ++ l)) (take-take n (length bytes - at) (drop at bytes) (omega arith))
    ∙ ap (λ (l : List ℕ). before ++ l) (sym (take-add at n bytes))))

-- the bytes so far are a prefix, and the whole where no more are left
pub took_prefix : (old here : Option (List ℕ)) (bytes : List ℕ) (at : ℕ) (whole : Type 0)
    → HoldsMore old here bytes at → (whole → drop at bytes ≡ []) → IfSome old (λ before. Takes before here bytes whole)
took_prefix old here bytes at whole held all = IfSome_then old held (λ before is.
    record { prefix = take at bytes; rest = drop at bytes; taken = is; is_prefix = take-append-drop at bytes; all = all })

-- a call that answered Ok, or whose object didn't fail
told_where : {T E : Type 0} (r : Result T E) (told : Bool) (status before now : ℕ) → told ≡ is_ok r
    → (status ≡ 0 → told ≡ true) → OnErr r (Rose before now) → IsTaken status before now → IsOk r
told_where (Ok x) told status before now is done failed h = refl
told_where (Err e) told status before now is done failed (inl ok) = absurd (false≢true (sym is ∙ done ok))
told_where (Err e) told status before now is done failed (inr none) = absurd (none failed)

-- a run whose status is 0 only where its call answered Ok: what the call had its sink take, the run has
pub taken_by_run : {T E : Type 0} (r : Result T E) (told : Bool) (status earlier now : ℕ) (old after : Option (List ℕ)) (bytes : List ℕ)
    → told ≡ is_ok r → (status ≡ 0 → told ≡ true) → OnErr r (Rose earlier now)
    → IfSome old (λ before. Takes before after bytes (IsOk r))
    → (before : List ℕ) → old ≡ Some before → Takes before after bytes (IsTaken status earlier now)
taken_by_run r told status earlier now old after bytes is done failed took before held =
    let t = MatchOption-at_some _ (λ before. Takes before after bytes (IsOk r)) before held took in
    record {
      prefix = t.prefix;
      rest = t.rest;
      taken = t.taken;
      is_prefix = t.is_prefix;
      all = λ h. t.all (told_where r told status earlier now is done failed h);
    }
