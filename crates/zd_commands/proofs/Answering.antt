-- What clap's answers say.
use Rattle.std.proofs.Common.{◌≡◌, ◌∙◌, ℕ, true, refl, sym, ap, subst, List, [], inl, inr}
use Rattle.clap.specs.Walk.{Text}
use Rattle.clap.specs.Simple.{App, HasMatchesOf}
use Rattle.clap.specs.Kinds.{HasKind, Kinds}
use Rattle.clap.specs.Values.{kind_of}
use Rattle.clap.specs.Faults.{fault_of, is_simple_and_free}
use Rattle.clap.specs.declared.error.Error.{Error}
use Rattle.clap.specs.declared.error.kind.ErrorKind.TheVariants.{OutOfMemory}
use Rattle.clap.specs.declared.parser.matches.ArgMatches.{ArgMatches}
use Rattle.zd_commands.specs.Table.{IsRefused, IsTaken, app_with}

pub taken : (flags options places words : List Text) (m : ArgMatches) (made : App) → made ≡ app_with flags options places
    → (is_simple_and_free made ≡ true → fault_of made words ≡ []) → HasMatchesOf made words m → IsTaken flags options places words m
unfolding IsTaken
taken flags options places words m made is kinds matches free =
    (sym (ap (λ (a : App). fault_of a words) is) ∙ kinds (ap is_simple_and_free is ∙ free), subst (λ (a : App). HasMatchesOf a words m) is matches)

only_memory : (kinds : Kinds) (e : Error) → kinds ≡ [] → HasKind kinds e → kind_of e ≡ OutOfMemory
only_memory kinds e none h = go (subst (λ (ks : Kinds). HasKind ks e) none h)
  where
    go : HasKind [] e → kind_of e ≡ OutOfMemory
    go (inl k) = k
    go (inr k) = absurd k

pub refused : (flags options places words : List Text) (e : Error) (made : App) → made ≡ app_with flags options places
    → (is_simple_and_free made ≡ true → HasKind (fault_of made words) e) → (kind_of e ≡ OutOfMemory → ⊥) → IsRefused flags options places words
unfolding IsRefused
refused flags options places words e made is kinds other free none =
    other (only_memory (fault_of made words) e (ap (λ (a : App). fault_of a words) is ∙ none) (kinds (ap is_simple_and_free is ∙ free)))
