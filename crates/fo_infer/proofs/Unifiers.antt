-- Any two most general unifiers give the same clause in normal form, and the same order.
use Rattle.std.proofs.Common.{◌≡◌, ℕ, List, [], ◌∷◌, refl, sym, ap, subst, ◌∙◌}
use Rattle.fo_terms.specs.declared.term.FoTerm.{FoTerm}
use Rattle.fo_terms.specs.declared.atom.Atom.{Atom}
use Rattle.fo_terms.specs.declared.atom.Atom.TheVariants.{Holds, Eq}
use Rattle.fo_terms.specs.declared.literal.Literal.{Literal}
use Rattle.fo_terms.specs.Substitution.{put, put_atom, put_literals}
use Rattle.fo_terms.proofs.Substitution.{put_put}
use Rattle.fo_terms.proofs.NormalForms.{one_normal_form}
use Rattle.fo_unify.specs.declared.subst.Bind.{Bind}
use Rattle.fo_unify.specs.Lookup.{term_of}
use Rattle.fo_unify.specs.Unifier.{IsMostGeneral}
use Rattle.fo_order.specs.KnuthBendix.{Above}
use Rattle.fo_infer.specs.Inferences.{conclusion}
use Rattle.fo_infer.specs.inner.Places.{NotBelow}
use Rattle.fo_infer.proofs.OrderKept.{above_kept}

-- one substitution goes through another: a term, an atom, a list of literals
module _ (u v : ℕ → FoTerm) (through : (x : ℕ) → v x ≡ put v (u x)) where
  pub put_through : (t : FoTerm) → put v (put u t) ≡ put v t
  put_through t = put_put v u t ∙ (λ i. put (λ x. sym (through x) i) t)

  atom_through : (a : Atom) → put_atom v (put_atom u a) ≡ put_atom v a
  atom_through (Holds t) = ap Holds (put_through t)
  atom_through (Eq s t) = λ i. Eq (put_through s i) (put_through t i)

  pub literals_through : (ls : List Literal) → put_literals v (put_literals u ls) ≡ put_literals v ls
  literals_through [] = refl
  literals_through (l ∷ ls) = λ i. record { positive = l.positive; atom = atom_through l.atom i } ∷ literals_through ls i

module _ (es : List (FoTerm × FoTerm)) (first second : List Bind) (one : IsMostGeneral es first) (other : IsMostGeneral es second) where
  there : (x : ℕ) → term_of second x ≡ put (term_of second) (term_of first x)
  there = one.general (term_of second) other.unifies

  back : (x : ℕ) → term_of first x ≡ put (term_of first) (term_of second x)
  back = other.general (term_of first) one.unifies

  pub one_conclusion : (ls : List Literal) → conclusion first ls ≡ conclusion second ls
  one_conclusion ls =
      let same = one_normal_form (put_literals (term_of first) ls) (put_literals (term_of second) ls) (term_of second) (term_of first)
      (literals_through (term_of first) (term_of second) there ls) (literals_through (term_of second) (term_of first) back ls) in
      λ i. record { literals = same i }

  pub not_below_kept : (s t : FoTerm) → NotBelow first s t → NotBelow second s t
  not_below_kept s t holds =
      let to : (r : FoTerm) → put (term_of first) (put (term_of second) r) ≡ put (term_of first) r = put_through (term_of second) (term_of first) back in
      let from : (r : FoTerm) → put (term_of second) (put (term_of first) r) ≡ put (term_of second) r = put_through (term_of first) (term_of second) there in
      let whole : (r : FoTerm) → put (term_of second) (put (term_of first) (put (term_of second) r)) ≡ put (term_of second) r = λ r. ap (put (term_of second)) (to r) ∙ from r in (
        λ e. holds.0 (sym (to s) ∙ ap (put (term_of first)) e ∙ to t),
        λ less. holds.1 (subst (λ r. Above r (put (term_of first) s)) (to t) (subst (λ r. Above (put (term_of first) (put (term_of second) t)) r) (to s)
            (above_kept (term_of first) (term_of second) (whole t) (whole s) less))),
      )
