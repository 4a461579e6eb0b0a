-- The least number of either class is that of the first chunk in use order which has one of them.
use Rattle.std.proofs.Common.{subst, sym}
use Rattle.std.proofs.lemmas.Option.{MatchOption-at_none}
use Rattle.zd_alloc.specs.Candidates.{has_class, has_either, IsFirstSuch}
use Rattle.zd_alloc.proofs.OldestLaws.{oldest_is, none_is, first_of_both, first_alone, second_alone, none_of_both}
use Rattle.zd_alloc.proofs.candidates.Candidates.oldest_of_either.Goals as goal

pub returns-in-Some-Some-clause-value : goal.returns-in-Some-Some-clause-value
returns-in-Some-Some-clause-value c =
    let s = c.args.self.now in
    let p = has_class s.classes c.args.first in
    let q = has_class s.classes c.args.second in
    let either = has_either s.classes c.args.first c.args.second in
    let both = first_of_both p q s.numbers c.in-Some-Some.chunk c.in-Some-Some.other c.in-Some-Some.ensures.some c.in-Some-Some.ensures'.some in
    oldest_is either s.numbers c.older.result (subst (IsFirstSuch either s.numbers) (sym c.older.ensures) both)

pub returns-in-Some-None-clause-value : goal.returns-in-Some-None-clause-value
returns-in-Some-None-clause-value c =
    let s = c.args.self.now in
    let p = has_class s.classes c.args.first in
    let q = has_class s.classes c.args.second in
    oldest_is (has_either s.classes c.args.first c.args.second) s.numbers c.in-Some-None.chunk
    (first_alone p q s.numbers c.in-Some-None.chunk c.in-Some-None.ensures.some c.in-Some-None.ensures'.none)

pub returns-in-None-Some-clause-value : goal.returns-in-None-Some-clause-value
returns-in-None-Some-clause-value c =
    let s = c.args.self.now in
    let p = has_class s.classes c.args.first in
    let q = has_class s.classes c.args.second in
    oldest_is (has_either s.classes c.args.first c.args.second) s.numbers c.in-None-Some.other
    (second_alone p q s.numbers c.in-None-Some.other (MatchOption-at_none _ _ c.in-None-Some.is-0 c.first_of.ensures.none) c.in-None-Some.ensures.some)

pub returns-in-None-None-clause-value : goal.returns-in-None-None-clause-value
returns-in-None-None-clause-value c =
    let s = c.args.self.now in
    let p = has_class s.classes c.args.first in
    let q = has_class s.classes c.args.second in
    none_is (has_either s.classes c.args.first c.args.second) s.numbers
    (none_of_both p q s.numbers (MatchOption-at_none _ _ c.in-None-None.is-0 c.first_of.ensures.none) (MatchOption-at_none _ _ c.in-None-None.is-1 c.first_of-2.ensures.none))
