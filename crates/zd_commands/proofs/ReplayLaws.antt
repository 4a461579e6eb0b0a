-- What a command of a replay asks for.
use Rattle.std.proofs.Common.{◌≡◌, ◌≤◌, ℕ, Bool, true, false, refl, sym, ap, ◌∙◌, subst, arith, List, [], ◌∷◌, length, map, codes, Option, Some, None}
use Rattle.std.specs.Option.{option_copied}
use Rattle.clap.specs.Walk.{Row, Text}
use Rattle.zd_commands.specs.FoundReplays.{FindsReplay, MakesReplay, MakesTask}
use Rattle.zd_commands.specs.Founds.{FindsRows, IsRead, at_place}
use Rattle.zd_commands.specs.Replays.{TakesReplay, replay_places}
use Rattle.zd_commands.specs.Spelling.{IsReading, Item, value_of}
use Rattle.zd_commands.specs.declared.replays.ReplayFound.{ReplayFound}
use Rattle.zd_commands.specs.declared.replays.ReplayTask.{ReplayTask}
use Rattle.zd_commands.specs.declared.replays.ReplayTask.TheVariants.{Script, Made}

some_same : (v w : Text) → ◌≡◌ {A = Option Text} (Some v) (Some w) → v ≡ w
some_same v w e = cc

not_some : (w : Text) → ◌≡◌ {A = Option Text} None (Some w) → ⊥
not_some w e = cc

not_none : (w : Text) → ◌≡◌ {A = Option Text} (Some w) None → ⊥
not_none w e = cc

takes_from : (words : List Text) (task : ReplayTask) (image : Text) (s n : Option Text) → length words ≤ 2 → at_place (codes "image") replay_places words ≡ Some image
    → MakesTask task (at_place (codes "script") replay_places words) s n → TakesReplay task image words s n
takes_from [] task image s n few is h = absurd (not_some image is)
takes_from (w ∷ []) (Script text) image s n few is h = absurd (not_some text.now h.0)
takes_from (w ∷ []) (Made number requests) image s n few is h = (ap (λ (t : Text). t ∷ []) (some_same w image is), h.1, h.2, h.3, h.4, h.5)
takes_from (w ∷ v ∷ []) (Script text) image s n few is h =
    (ap (λ (t : Text). t ∷ v ∷ []) (some_same w image is) ∙ ap (λ (t : Text). image ∷ t ∷ []) (some_same v text.now h.0), h.1, h.2)
takes_from (w ∷ v ∷ []) (Made number requests) image s n few is h = absurd (not_none v h.0)
takes_from (w ∷ v ∷ u ∷ words) task image s n few is h = absurd (omega (arith, few))

takes_to : (words : List Text) (task : ReplayTask) (image : Text) (s n : Option Text) → TakesReplay task image words s n
    → (at_place (codes "image") replay_places words ≡ Some image) × MakesTask task (at_place (codes "script") replay_places words) s n
takes_to words (Script text) image s n h =
    (ap (at_place (codes "image") replay_places) h.0, (ap (at_place (codes "script") replay_places) h.0, h.1, h.2))
takes_to words (Made number requests) image s n h =
    (ap (at_place (codes "image") replay_places) h.0, (ap (at_place (codes "script") replay_places) h.0, h.1, h.2, h.3, h.4, h.5))

few_words : (words : List Text) (task : ReplayTask) (image : Text) (s n : Option Text) → TakesReplay task image words s n → length words ≤ 2
few_words words (Script text) image s n h = subst (λ (ws : List Text). length ws ≤ 2) (sym h.0) (omega arith)
few_words words (Made number requests) image s n h = subst (λ (ws : List Text). length ws ≤ 2) (sym h.0) (omega arith)

same_task : (task : ReplayTask) (o s n p t m : Option Text) → o ≡ p → s ≡ t → n ≡ m → MakesTask task o s n → MakesTask task p t m
same_task task o s n p t m eo es en h =
    subst (λ (x : Option Text). MakesTask task x t m) eo (subst (λ (x : Option Text). MakesTask task o x m) es (subst (λ (x : Option Text). MakesTask task o s x) en h))

module _ (options words : List Text) (rows : List Row) (found : ReplayFound) (read : IsRead [] options words 2 (FindsRows [] options replay_places rows))
    (finds : (items : List Item) (ws : List Text) → FindsRows [] options replay_places rows items ws → FindsReplay found items ws) where
  -- what was found makes what the words take
  pub made_takes : (task : ReplayTask) (image : Text) → MakesReplay found task image
      → TakesReplay task image read.plain (value_of (codes "make") read.items) (value_of (codes "count") read.items)
  made_takes task image m =
      let found_as = finds read.items read.plain (read.each read.items read.plain read.reading read.few) in
      takes_from read.plain task image (value_of (codes "make") read.items) (value_of (codes "count") read.items) read.few (sym found_as.image ∙ m.0)
      (same_task task (option_copied found.script) (option_copied found.seed) (option_copied found.count) _ _ _ found_as.script found_as.seed found_as.count m.1)

  pub takes_made : (task : ReplayTask) (image : Text) (items : List Item) (ws : List Text) → IsReading [] options words items ws
      → TakesReplay task image ws (value_of (codes "make") items) (value_of (codes "count") items) → MakesReplay found task image
  takes_made task image items ws reading h =
      let found_as = finds items ws (read.each items ws reading (few_words ws task image (value_of (codes "make") items) (value_of (codes "count") items) h)) in
      let parts = takes_to ws task image (value_of (codes "make") items) (value_of (codes "count") items) h in (
        found_as.image ∙ parts.0,
        same_task task _ _ _ (option_copied found.script) (option_copied found.seed) (option_copied found.count)
            (sym found_as.script) (sym found_as.seed) (sym found_as.count) parts.1,
      )

  -- a value of an option of its own
  pub option_is : (name : Text) (v : Option Text) → ((items : List Item) (ws : List Text) → FindsRows [] options replay_places rows items ws → v ≡ value_of name items)
      → (task : ReplayTask) (image : Text) (items : List Item) (ws : List Text) → IsReading [] options words items ws
      → TakesReplay task image ws (value_of (codes "make") items) (value_of (codes "count") items) → v ≡ value_of name items
  option_is name v is task image items ws reading h =
      is items ws (read.each items ws reading (few_words ws task image (value_of (codes "make") items) (value_of (codes "count") items) h))
