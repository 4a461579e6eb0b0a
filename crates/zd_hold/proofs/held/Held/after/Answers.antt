use Rattle.std.proofs.Common.{◌≡◌, ◌↔◌, ◌⊎◌, Bool, true, false, IsTrue, List, ℕ, ap, sym, inl, inr, ◌∙◌}
use Rattle.std.specs.Str.{bytes_eq}
use Rattle.std.proofs.lemmas.Slice.Eq.{bytes_eq-Decides}
use Rattle.zd_model.specs.Entries.{shown_entry}
use Rattle.zd_model.specs.Requests.{operation_of}
use Rattle.zd_model.specs.Stops.{MayCount}
use Rattle.zd_hold.specs.Puts.{put_at}
use Rattle.zd_hold.proofs.OneMore.{flush_none, may_add, may_flush, may_stay, now_put, now_stays}
use Rattle.zd_hold.proofs.held.Held.after.Goals as goal
use Rattle.zd_hold.proofs.held.Held.after.Goals.{then-self, else-self+then-same, else-self+else-same}

pub returns-then-is_acknowledged : goal.returns-then-is_acknowledged
returns-then-is_acknowledged c base history size before =
    let e = shown_entry c.args.entry.now in
    let a = c.args.asked in
    let is = sym c.is_acknowledged.ensures ∙ c.if-is_acknowledged.true in
    record {
      now = now_stays base history e a.calls a.sector a.value.now (flush_none _ a.calls a.sector e is)
          c.args.self.now before.now;
      may = may_flush base history e a.calls a.sector a.value.now is c.args.self.now before.now;
    }

pub returns-in_default : goal.returns-in_default
returns-in_default c base history size before =
    let e = shown_entry c.args.entry.now in
    let a = c.args.asked in
    let no = sym c.is_acknowledged.ensures ∙ c.if-is_acknowledged.false in
    let none = ap (λ n. put_at n e.what a.sector) size ∙ sym c.put_at.ensures ∙ c.in_default.is in
    record {
      now = now_stays base history e a.calls a.sector a.value.now none c.args.self.now before.now;
      may = may_stay base history e a.calls a.sector a.value.now no none c.args.self.may before.may;
    }

-- a comparison of bytes, told the other way round
compared : (put value : List ℕ) (bytes : List ℕ) (b : Bool) → bytes ≡ put → b ≡ bytes_eq bytes value
    → IsTrue b ↔ (value ≡ put)
compared put value bytes b is told =
    let decides = bytes_eq-Decides bytes value in
    (λ holds. sym (decides.0 (sym told ∙ holds)) ∙ is, λ same. told ∙ decides.1 (is ∙ sym same))

-- one test, where it holds or the others don't
either_first : (b first second : Bool) (Q : Type 0) → b ≡ first → first ≡ true
    → IsTrue b ↔ (IsTrue first ⊎ (IsTrue second × Q))
either_first b first second Q is holds = (λ _. inl holds, λ _. is ∙ holds)

either_second : (b first second third : Bool) (Q : Type 0) → b ≡ third → first ≡ false → second ≡ true
    → IsTrue third ↔ Q → IsTrue b ↔ (IsTrue first ⊎ (IsTrue second × Q))
either_second b first second third Q is fails holds told = (λ b_holds. inr (holds, told.0 (sym is ∙ b_holds)), back)
  where
    back : IsTrue first ⊎ (IsTrue second × Q) → IsTrue b
    back (inl first_holds) = cc
    back (inr both) = is ∙ told.1 both.1

neither : (b first second : Bool) (Q : Type 0) → b ≡ second → first ≡ false → second ≡ false
    → IsTrue b ↔ (IsTrue first ⊎ (IsTrue second × Q))
neither b first second Q is fails none = (λ holds. let wrong : ⊥ = cc in absurd wrong, back)
  where
    back : IsTrue first ⊎ (IsTrue second × Q) → IsTrue b
    back (inl holds) = cc
    back (inr both) = let holds = both.0 in cc

pub returns : goal.returns
returns c base history size before =
    let e = shown_entry c.args.entry.now in
    let a = c.args.asked in
    let no = sym c.is_acknowledged.ensures ∙ c.if-is_acknowledged.false in
    let some = ap (λ n. put_at n e.what a.sector) size ∙ sym c.put_at.ensures ∙ c.in-Some.is in
    let same = compared c.in-Some.put a.value.now c.as_slice.result.now c.eq-same.result c.as_slice.ensures
    c.eq-same.ensures in
    let counts : Type 0 = MayCount (operation_of e.what) a.calls e in
    let sum : IsTrue c.if-self.may ↔ (IsTrue c.args.self.may ⊎ (IsTrue c.eq-same.result × counts)) =
    elim c.if-self.branch [
      | then-self w ↦ either_first c.if-self.may c.args.self.may c.eq-same.result counts w.may-is w.if-self.true
      | else-self+then-same w ↦
          either_second c.if-self.may c.args.self.may c.eq-same.result w.may_count.result counts w.may-is
          w.if-self.false w.if-same.true w.may_count.ensures
      | else-self+else-same w ↦
          neither c.if-self.may c.args.self.may c.eq-same.result counts w.may-is w.if-self.false w.if-same.false
    ] in
    record {
      now = rw c.now_after.ensures
          (now_put base history e a.calls a.sector a.value.now c.in-Some.put some c.args.self.now c.eq-same.result
          before.now same);
      may = may_add base history e a.calls a.sector a.value.now no c.in-Some.put some c.args.self.may c.eq-same.result
          c.if-self.may before.may same sum;
    }
