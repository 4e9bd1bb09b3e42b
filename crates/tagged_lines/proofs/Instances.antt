-- Instances of tagged clauses.
use Rattle.std.proofs.Common.{◌≡◌, ℕ, false, List, [], ◌∷◌, ◌++◌, take, drop, suc, refl, sym, ap, subst, ◌∙◌}
use Rattle.std.specs.List.{remove}
use Rattle.hol_terms.specs.declared.ty.Ty.{Ty}
use Rattle.hol_terms.specs.declared.konst.Konst.TheVariants as konst
use Rattle.hol_terms.specs.declared.term.Term.{Term, roll-Term}
use Rattle.hol_terms.specs.declared.term.Term.TheOpen.{Term-F}
use Rattle.hol_terms.specs.Types.{is_ty, bool_ty}
use Rattle.hol_terms.specs.Substitution.{put_free}
use Rattle.hol_terms.proofs.Equations.{put_free-app, put_free-con}
use Rattle.fo_terms.specs.declared.term.FoTerm.{FoTerm}
use Rattle.fo_terms.specs.declared.atom.Atom.{Atom}
use Rattle.fo_terms.specs.declared.atom.Atom.TheVariants.{Holds, Eq}
use Rattle.fo_terms.specs.declared.literal.Literal.{Literal}
use Rattle.fo_terms.specs.Substitution.{put, put_atom, put_literal, put_literals}
use Rattle.fo_terms.proofs.Induction.{Each}
use Rattle.fo_terms.proofs.Renaming.{each_append}
use Rattle.fo_terms.proofs.Substitution.{put_put}
use Rattle.tagged_terms.specs.Readings.{Signs, Types, Tagged, application, IsTagged}
use Rattle.tagged_terms.specs.Terms.{term_at, tag_of}
use Rattle.tagged_terms.specs.Clauses.{equation, formula_of, literals_of, IsAtom, IsClause}
use Rattle.tagged_terms.specs.Fits.{AreClosed, typed_put, Fits}
use Rattle.tagged_terms.proofs.Keeping.{core_kept, tagged_kept}
use Rattle.tagged_terms.proofs.Standing.{puts, tagged_with, tagged_stands}
use Rattle.tagged_lines.specs.TypedLiterals.{typed_literals}
use Rattle.tagged_lines.proofs.Items.{each_take, each_drop}

-- ---- one substitution

module _ (signs : Signs) (old new : Types) (u : ℕ → FoTerm) (closed : AreClosed signs) (fits : Fits signs old new u) where
  abbrev v : ℕ → Ty → Term
  v = typed_put signs u

  -- a tagged term's instance, with what it stands for at any type
  instance : (t : FoTerm) (s : Ty) → IsTagged signs old t s (term_at signs t bool_ty) → IsTagged signs new (put u t) s (term_at signs (put u t) bool_ty)
  instance t s h = let k = tagged_kept signs old new u closed fits t s (term_at signs t bool_ty) h in k ∙ ap (Tagged s) (sym (tagged_stands signs new (put u t) s (put_free v (term_at signs t bool_ty)) k bool_ty))

  stands : (t : FoTerm) (s : Ty) → IsTagged signs old t s (term_at signs t bool_ty) → term_at signs (put u t) bool_ty ≡ put_free v (term_at signs t bool_ty)
  stands t s h = tagged_stands signs new (put u t) s (put_free v (term_at signs t bool_ty)) (tagged_kept signs old new u closed fits t s (term_at signs t bool_ty) h) bool_ty

  same_tag : (t : FoTerm) (s : Ty) → IsTagged signs old t s (term_at signs t bool_ty) → tag_of signs (put u t) ≡ s
  same_tag t s h = tagged_with signs new (put u t) s (put_free v (term_at signs t bool_ty)) (tagged_kept signs old new u closed fits t s (term_at signs t bool_ty) h)

  pub atom_kept : (a : Atom) → IsAtom signs old a → IsAtom signs new (put_atom u a)
  atom_kept (Holds t) h = instance t bool_ty h
  atom_kept (Eq s t) h =
      subst (λ a. IsTagged signs new (put u s) a (term_at signs (put u s) bool_ty) × IsTagged signs new (put u t) a (term_at signs (put u t) bool_ty) × (is_ty a bool_ty ≡ false))
      (sym (same_tag s (tag_of signs s) h.0)) (instance s (tag_of signs s) h.0, instance t (tag_of signs s) h.1, h.2)

  equation_put : (a : Ty) (s t : Term) → put_free v (equation a s t) ≡ equation a (put_free v s) (put_free v t)
  equation_put a s t =
      put_free-app v (application (roll-Term (Term-F.Con (konst.Eq a))) s) t
      ∙ ap (λ f. application f (put_free v t)) (put_free-app v _ s ∙ ap (λ f. application f (put_free v s)) (put_free-con v (konst.Eq a)))

  pub formula_put : (a : Atom) → IsAtom signs old a → formula_of signs (put_atom u a) ≡ put_free v (formula_of signs a)
  formula_put (Holds t) h = stands t bool_ty h
  formula_put (Eq s t) h =
      (λ i. equation (same_tag s (tag_of signs s) h.0 i) (stands s (tag_of signs s) h.0 i) (stands t (tag_of signs s) h.1 i))
      ∙ sym (equation_put (tag_of signs s) (term_at signs s bool_ty) (term_at signs t bool_ty))

  pub clause_kept : (ls : List Literal) → IsClause signs old ls → IsClause signs new (put_literals u ls)
  clause_kept [] h = tt
  clause_kept (l ∷ ls) h = (atom_kept l.atom h.0, clause_kept ls h.1)

  pub literals_put : (ls : List Literal) → IsClause signs old ls → literals_of signs (put_literals u ls) ≡ typed_literals v (literals_of signs ls)
  literals_put [] h = refl
  literals_put (l ∷ ls) h = λ i. record { positive = l.positive; atom = formula_put l.atom h.0 i } ∷ literals_put ls h.1 i

-- ---- two

pub fits_after : (signs : Signs) (old mid new : Types) (u w : ℕ → FoTerm) → AreClosed signs → Fits signs old mid u → Fits signs mid new w → Fits signs old new (λ x. put w (u x))
fits_after signs old mid new u w closed first second x s is = puts signs new (λ y. put w (u y)) x s _ (core_kept signs mid new w closed second (u x) s (typed_put signs u x s) (first x s is))

atom_after : (u w : ℕ → FoTerm) (a : Atom) → put_atom w (put_atom u a) ≡ put_atom (λ x. put w (u x)) a
atom_after u w (Holds t) = ap Holds (put_put w u t)
atom_after u w (Eq s t) = λ i. Eq (put_put w u s i) (put_put w u t i)

pub literal_after : (u w : ℕ → FoTerm) (l : Literal) → put_literal w (put_literal u l) ≡ put_literal (λ x. put w (u x)) l
literal_after u w l = λ i. record { positive = l.positive; atom = atom_after u w l.atom i }

pub literals_after : (u w : ℕ → FoTerm) (ls : List Literal) → put_literals w (put_literals u ls) ≡ put_literals (λ x. put w (u x)) ls
literals_after u w [] = refl
literals_after u w (l ∷ ls) = λ i. literal_after u w l i ∷ literals_after u w ls i

-- ---- parts of clauses

module _ (signs : Signs) (types : Types) where
  pub as_each : (ls : List Literal) → IsClause signs types ls → Each (λ l. IsAtom signs types l.atom) ls
  as_each [] h = tt
  as_each (l ∷ ls) h = (h.0, as_each ls h.1)

  pub from_each : (ls : List Literal) → Each (λ l. IsAtom signs types l.atom) ls → IsClause signs types ls
  from_each [] h = tt
  from_each (l ∷ ls) h = (h.0, from_each ls h.1)

  pub clause_remove : (ls : List Literal) (i : ℕ) → IsClause signs types ls → IsClause signs types (remove ls i)
  clause_remove ls i h =
      from_each (remove ls i) (each_append (λ l. IsAtom signs types l.atom) (take i ls) (drop (suc i) ls) (each_take (λ l. IsAtom signs types l.atom) i ls (as_each ls h))
      (each_drop (λ l. IsAtom signs types l.atom) (suc i) ls (as_each ls h)))

  pub clause_append : (ls ms : List Literal) → IsClause signs types ls → IsClause signs types ms → IsClause signs types (ls ++ ms)
  clause_append [] ms h k = k
  clause_append (l ∷ ls) ms h k = (h.0, clause_append ls ms h.1 k)
