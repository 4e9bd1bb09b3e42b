use Rattle.std.proofs.Common.{◌≡◌, ◌∙◌, sym, ap}
use Rattle.std.specs.Prelude.{is_some}
use Rattle.theory_terms.specs.Words.{place}
use Rattle.theory_terms.specs.Signature.{found}
use Rattle.theory_terms.proofs.Places.{place_is}
use Rattle.theory_terms.proofs.decls.Decls.has_const.Goals as goal

pub returns : goal.returns
returns c =
    c.is_some.ensures ∙ ap is_some (c.place.ensures.place ∙ ap (place c.args.name.now) c.self.invariant.0) ∙ place_is c.args.name.now c.self.inside.consts ∙
    ap (λ k. is_some (found c.args.name.now k.declared.consts)) c.self.view_is
