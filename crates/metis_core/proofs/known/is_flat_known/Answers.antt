use Rattle.std.proofs.Common.{◌≡◌, [], Any, subst, sym, ap, ◌∙◌, unwrap_or, nat_eq, Some, None}
use Rattle.std.specs.HashMap.{get}
use Rattle.std.specs.Option.{option_copied}
use Rattle.metis_core.specs.Stock.{places_at, IsLine}
use Rattle.metis_core.specs.Print.{clause_print}
use Rattle.metis_core.proofs.Indexes.{stands, stood, nowhere}
use Rattle.metis_core.proofs.known.is_flat_known.Goals as goal

pub returns-in-Some : goal.returns-in-Some
returns-in-Some c =
    let says = c.is_flat_at.ensures in
    let value : Some c.in-Some.places.now ≡ get nat_eq c.args.known.now c.print.result = ap option_copied (sym c.in-Some.is) ∙ c.get.ensures.value in
    let places : c.as_slice.result.now ≡ places_at c.args.known.now (clause_print (record { literals = c.args.c.now })) =
    c.as_slice.ensures ∙ ap (λ o. unwrap_or o []) value ∙ ap (places_at c.args.known.now) c.print.ensures in (
      λ h. stood c.args.known.now c.args.lines.now (record { literals = c.args.c.now }) c.requires (subst (Any (IsLine c.args.lines.now (record { literals = c.args.c.now }))) places (says.0 h)),
      λ held. says.1 (subst (Any (IsLine c.args.lines.now (record { literals = c.args.c.now }))) (sym places) (stands c.args.known.now c.args.lines.now (record { literals = c.args.c.now }) c.requires held)),
    )

pub returns-in-None : goal.returns-in-None
returns-in-None c =
    let value : None ≡ get nat_eq c.args.known.now c.print.result = ap option_copied (sym c.in-None.is) ∙ c.get.ensures.value in
    let places : [] ≡ places_at c.args.known.now (clause_print (record { literals = c.args.c.now })) = ap (λ o. unwrap_or o []) value ∙ ap (places_at c.args.known.now) c.print.ensures in
    (λ h. cc, λ held. absurd (nowhere (IsLine c.args.lines.now (record { literals = c.args.c.now })) (subst (Any (IsLine c.args.lines.now (record { literals = c.args.c.now }))) (sym places) (stands c.args.known.now c.args.lines.now (record { literals = c.args.c.now }) c.requires held))))
