use Rattle.std.proofs.Common.{rules, ◌∷◌, sym, ap, ◌∙◌, Some}
use Rattle.atomic_table.specs.Table.{rest}
use Rattle.zd_workers.proofs.Kept.{tries}
use Rattle.zd_workers.proofs.turn.Turn.try_take.Goals as goal

pub compare_exchange-requires : goal.compare_exchange-requires
compare_exchange-requires g c = (search rules, search rules, tries g.T.Stepper.constant _ _ _ (search rules))

pub exchange-requires : goal.exchange-requires
exchange-requires g c = let t = c.compare_exchange.ensures.2.0 (search rules) in
    (search rules, (Some t.0, ap (λ m. m.1) t.1 ∙ ap (λ l. (0, Some t.0) ∷ l) (sym (ap (λ m. rest m.1) t.1))))
