use Rattle.ground.proofs.Settled.{handed_on}
use Rattle.incoming.proofs.Arrivals.{arrives}
use Rattle.calls.specs.Stages.{fit_book, roomy, arrival_tests}
use Rattle.calls.proofs.OrderStages.{arrive_stages}
use Rattle.calls.proofs.Stops.{stops, goes_on}
use mathlib.Core.List.{[], ◌∷◌}
use mathlib.Core.Path.{refl, ap, ◌∙◌}
use Rattle.incoming.proofs.verdicts.may_arrive.Goals as goal

pub returns-in_err-store_verdict : goal.returns-in_err-store_verdict
returns-in_err-store_verdict c = let a = c.args in handed_on c.from_residual.result c.from_residual.ensures.1 ∙ ap (arrives a.book a.s.now) (stops (fit_book a.book ∷ roomy a.book a.store ∷ []) (arrival_tests a.book a.s.now) (arrive_stages a.book a.store a.s.now) c.store_verdict.ensures c.in_err-store_verdict.was)

pub returns : goal.returns
returns c = let a = c.args in c.may_arrive_by.ensures ∙ ap (arrives a.book a.s.now) (goes_on (fit_book a.book ∷ roomy a.book a.store ∷ []) (arrival_tests a.book a.s.now) (arrive_stages a.book a.store a.s.now) c.store_verdict.ensures c.in_ok-store_verdict.was refl)
