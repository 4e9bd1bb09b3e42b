use Rattle.std.proofs.Common.{◌≡◌, ℕ, List, map, sym, ap, subst, ◌∙◌}
use Rattle.std.specs.Prelude.{IfOk, Result}
use Rattle.hol_terms.specs.declared.ty.Ty.{Ty}
use Rattle.hol_terms.specs.declared.term.Term.{Term}
use Rattle.fo_terms.specs.declared.term.FoTerm.{FoTerm}
use Rattle.fo_terms.specs.Substitution.{fun}
use Rattle.tagged_terms.specs.Readings.{Signs, signs_of}
use Rattle.tagged_terms.specs.Terms.{type_below, assembled, term_at}
use Rattle.tagged_terms.proofs.Standing.{term_fun}
use Rattle.tagged_terms.proofs.decoding.+decoding.Goals as goal

decoded : {E : Type 0} (signs : Signs) (t : FoTerm) (f : ℕ) (args slice : List FoTerm) (s below : Ty) (parts lent : List Term) (r : Result Term E) → t ≡ fun f args → below ≡ type_below (signs f) s → slice ≡ args
    → parts ≡ map (λ u. term_at signs u below) slice → lent ≡ parts → IfOk r (λ d. d ≡ assembled (signs f) lent) → IfOk r (λ d. d ≡ term_at signs t s)
decoded signs t f args slice s below parts lent r is type whole made at h =
    let inner : lent ≡ map (λ u. term_at signs u (type_below (signs f) s)) args = at ∙ made ∙ (λ i. map (λ u. term_at signs u (type i)) (whole i)) in
    subst (λ z. IfOk r (λ d. d ≡ z)) (ap (assembled (signs f)) inner ∙ sym (term_fun signs f args s) ∙ ap (λ u. term_at signs u s) (sym is)) h

pub decode_at-returns-in_ok-parts-in-Fun : goal.decode_at-returns-in_ok-parts-in-Fun
decode_at-returns-in_ok-parts-in-Fun t c =
    decoded (signs_of c.args.symbols.now) c.args.t.now _ _ _ c.args.s.now _ _ _ c.assemble.result c.in-Fun.is c.in_ok-below-in-Fun.ensures c.as_slice.ensures c.in_ok-parts-in-Fun.ensures c.as_slice-in-Fun.ensures c.assemble.ensures
