-- What every rule ends with: literals over the parents' variables, a unifier that fits, and the normal form.
use Rattle.std.proofs.Common.{◌≡◌, ℕ, List, ◌++◌, sym, ap, subst, ◌∙◌, Some}
use Rattle.std.specs.List.{remove}
use Rattle.std.proofs.lemmas.List.{map-append}
use Rattle.hol_terms.specs.declared.ty.Ty.{Ty}
use Rattle.fo_terms.specs.declared.term.FoTerm.{FoTerm}
use Rattle.fo_terms.specs.declared.literal.Literal.{Literal}
use Rattle.fo_terms.specs.declared.clause.Clause.{Clause}
use Rattle.fo_terms.specs.Substitution.{put, put_literal, put_literals}
use Rattle.fo_terms.specs.Normal.{normal_of}
use Rattle.fo_terms.proofs.Substitution.{put_put}
use Rattle.fo_unify.specs.declared.subst.Bind.{Bind}
use Rattle.fo_unify.specs.Lookup.{term_of}
use Rattle.fo_unify.specs.Unifier.{IsMostGeneral}
use Rattle.fo_infer.specs.Inferences.{conclusion}
use Rattle.fo_infer.proofs.Unifiers.{one_conclusion}
use Rattle.tagged_terms.specs.Readings.{Signs, Types}
use Rattle.tagged_terms.specs.Clauses.{literal_of, literals_of, IsClause}
use Rattle.tagged_terms.specs.Fits.{AreClosed, Fits}
use Rattle.tagged_lines.specs.TypedLiterals.{Lasts}
use Rattle.tagged_lines.specs.Variables.{own, final_types, lasting_variables, final, finished}
use Rattle.tagged_lines.specs.Lifted.{IsInstance}
use Rattle.tagged_lines.proofs.Items.{map_remove}
use Rattle.tagged_lines.proofs.Agreeing.{own_clause}
use Rattle.tagged_lines.proofs.Instances.{clause_kept, literals_put, fits_after, literals_after}
use Rattle.tagged_lines.proofs.Finishing.{final_fits, all_last, normal_clause}

pub instance_of : (signs : Signs) (old mid new : Types) (u : ℕ → FoTerm) (ls : List Literal) → AreClosed signs → IsClause signs old ls → ((x : ℕ) (s : Ty) → own ls old x ≡ Some s → mid x ≡ Some s)
    → Fits signs mid new u → IsInstance signs old new u ls
instance_of signs old mid new u ls closed h among fits =
    let mine : Fits signs (own ls old) new u = λ x s is. fits x s (among x s is) in
    record { fits = mine; stands = literals_put signs (own ls old) new u closed mine ls (own_clause signs old ls h) }

module _ (signs : Signs) (types : Types) (closed : AreClosed signs) (binds : List Bind) (fits : Fits signs types types (term_of binds)) (ls : List Literal) (h : IsClause signs types ls) where
  -- the literals with the unifier put through them
  abbrev pub before : List Literal
  before = put_literals (term_of binds) ls

  abbrev pub new_types : Types
  new_types = final_types (lasting_variables before) types

  pub finished_fits : Fits signs types new_types (finished binds before)
  finished_fits = fits_after signs types types new_types (term_of binds) (final before) closed fits (final_fits signs types before)

  pub concluded : (c : List Literal) → c ≡ normal_of before → IsClause signs new_types c
  concluded c is = subst (IsClause signs new_types) (sym is) (normal_clause signs types before closed (clause_kept signs types types (term_of binds) closed fits ls h))

  pub lasting : (c : List Literal) → c ≡ normal_of before → Lasts (literals_of signs (put_literals (finished binds before) ls)) (literals_of signs c)
  lasting c is =
      subst (λ new. Lasts (literals_of signs (put_literals (finished binds before) ls)) (literals_of signs new)) (sym is)
      (subst (λ old. Lasts (literals_of signs old) (literals_of signs (normal_of before))) (literals_after (term_of binds) (final before) ls) (all_last signs before))

-- the clause is the same for every most general unifier
pub concludes : (es : List (FoTerm × FoTerm)) (one binds : List Bind) (c : Clause) (ls : List Literal) → IsMostGeneral es one → IsMostGeneral es binds → c ≡ conclusion one ls
    → c.literals ≡ normal_of (put_literals (term_of binds) ls)
concludes es one binds c ls first second gives = ap (λ d. d.literals) (gives ∙ one_conclusion es one binds first second ls)

-- terms that the unifier makes the same are the same in the end
pub finished_same : (binds : List Bind) (ls : List Literal) (s t : FoTerm) → put (term_of binds) s ≡ put (term_of binds) t → put (finished binds ls) s ≡ put (finished binds ls) t
finished_same binds ls s t h = sym (put_put (final ls) (term_of binds) s) ∙ ap (put (final ls)) h ∙ put_put (final ls) (term_of binds) t

pub both_removed : (signs : Signs) (u : ℕ → FoTerm) (ps qs : List Literal) (i j : ℕ)
    → literals_of signs (put_literals u (remove ps i ++ remove qs j)) ≡ remove (literals_of signs (put_literals u ps)) i ++ remove (literals_of signs (put_literals u qs)) j
both_removed signs u ps qs i j =
    ap (literals_of signs) (map-append (put_literal u) (remove ps i) (remove qs j) ∙ (λ k. map_remove (put_literal u) ps i k ++ map_remove (put_literal u) qs j k))
    ∙ map-append (literal_of signs) (remove (put_literals u ps) i) (remove (put_literals u qs) j)
    ∙ (λ k. map_remove (literal_of signs) (put_literals u ps) i k ++ map_remove (literal_of signs) (put_literals u qs) j k)

pub one_removed : (signs : Signs) (u : ℕ → FoTerm) (ps : List Literal) (i : ℕ) → literals_of signs (put_literals u (remove ps i)) ≡ remove (literals_of signs (put_literals u ps)) i
one_removed signs u ps i = ap (literals_of signs) (map_remove (put_literal u) ps i) ∙ map_remove (literal_of signs) (put_literals u ps) i
