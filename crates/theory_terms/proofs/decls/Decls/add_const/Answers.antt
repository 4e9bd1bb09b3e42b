use Rattle.std.proofs.Common.{◌≡◌, ◌∙◌, sym, ap}
use Rattle.theory_terms.specs.Words.{place}
use Rattle.theory_terms.specs.Signature.{found}
use Rattle.theory_terms.proofs.Places.{place_none}
use Rattle.theory_terms.proofs.decls.Decls.add_const.Goals as goal

pub add-requires : goal.add-requires
add-requires c =
    ap (place c.args.name.now) c.self.invariant.0 ∙ place_none c.args.name.now c.self.inside.consts (ap (λ k. found c.args.name.now k.declared.consts) c.self.view_is ∙ c.requires)
