-- Clauses that are instances of each other have one normal form, which is its own.
use Rattle.std.proofs.Common.{◌≡◌, ℕ, ◌==◌, ◌&&◌, List, [], ◌∷◌, ◌++◌, map, refl, sym, ap, ◌∙◌}
use Rattle.std.specs.Prelude.{not}
use Rattle.std.specs.List.{filter, concat}
use Rattle.std.proofs.lemmas.List.{map-append}
use Rattle.fo_terms.specs.declared.term.FoTerm.{FoTerm}
use Rattle.fo_terms.specs.declared.atom.Atom.{Atom}
use Rattle.fo_terms.specs.declared.atom.Atom.TheVariants.{Holds, Eq}
use Rattle.fo_terms.specs.declared.literal.Literal.{Literal}
use Rattle.fo_terms.specs.Substitution.{put, put_atom, put_literal, put_literals}
use Rattle.fo_terms.specs.Same.{is_term, is_literal}
use Rattle.fo_terms.specs.Normal.{is_identity, is_refuted, firsts, lasting, variables_of, atom_terms, literal_variables, clause_variables, numbering, numbered, normal_of}
use Rattle.fo_terms.specs.NormalLaws.{HaveOneNormalForm}
use Rattle.fo_terms.proofs.Induction.{Each}
use Rattle.fo_terms.proofs.Sameness.{is_term_sound, is_term_itself, is_literal_sound, is_literal_itself}
use Rattle.fo_terms.proofs.Substitution.{put_put}
use Rattle.fo_terms.proofs.Renaming.{each_append, each_left, each_right, filter_each, firsts_each, filter_map_kept, firsts_map_kept, kept_test, put_fixing, Undone, name, names_apart, variables_renamed, renumbered}

module _ (v w : ℕ → FoTerm) where
  -- w undoes v in the term, in the literal
  abbrev Whole : FoTerm → Type 0
  Whole t = put w (put v t) ≡ t

  abbrev Back : Literal → Type 0
  Back l = put_literal w (put_literal v l) ≡ l

  back_terms : (a : Atom) → put_atom w (put_atom v a) ≡ a → Each Whole (atom_terms a)
  back_terms (Holds t) h = (let e : put w (put v t) ≡ t = cc in e, tt)
  back_terms (Eq s t) h = (let e : put w (put v s) ≡ s = cc in e, (let f : put w (put v t) ≡ t = cc in f, tt))

  terms_of_back : (l : Literal) → Back l → Each Whole (atom_terms l.atom)
  terms_of_back l h = back_terms l.atom (ap (λ m. m.atom) h)

  -- ---- tests

  identity_kept : (a : Atom) → Each Whole (atom_terms a) → is_identity (put_atom v a) ≡ is_identity a
  identity_kept (Holds t) h = refl
  identity_kept (Eq s t) h = kept_test is_term is_term is_term_sound is_term_itself is_term_sound is_term_itself (put v) s t (λ e. sym h.0 ∙ ap (put w) e ∙ h.1.0)

  refuted_kept : (l : Literal) → Back l → is_refuted (put_literal v l) ≡ is_refuted l
  refuted_kept l h = ap (λ b. not l.positive && b) (identity_kept l.atom (terms_of_back l h))

  literal_kept : (l m : Literal) → Back l → Back m → is_literal (put_literal v l) (put_literal v m) ≡ is_literal l m
  literal_kept l m h k =
      kept_test is_literal is_literal is_literal_sound is_literal_itself is_literal_sound is_literal_itself (put_literal v) l m (λ e. sym h ∙ ap (put_literal w) e ∙ k)

  lasting_kept : (ls : List Literal) → Each Back ls → lasting (put_literals v ls) ≡ put_literals v (lasting ls)
  lasting_kept ls h =
      ap (firsts is_literal) (filter_map_kept (put_literal v) Back (λ l. not (is_refuted l)) (λ l. not (is_refuted l)) ls (λ l k. ap not (refuted_kept l k)) h)
      ∙ firsts_map_kept (put_literal v) Back is_literal is_literal (filter (λ l. not (is_refuted l)) ls) literal_kept (filter_each Back (λ l. not (is_refuted l)) ls h)

  lasting_back : (ls : List Literal) → Each Back ls → Each Back (lasting ls)
  lasting_back ls h = firsts_each Back is_literal (filter (λ l. not (is_refuted l)) ls) (filter_each Back (λ l. not (is_refuted l)) ls h)

  -- ---- variables

  undone_term : (t : FoTerm) → Whole t → Each (Undone v w) (variables_of t)
  undone_term t h = put_fixing (λ y. put w (v y)) t (sym (put_put w v t) ∙ h)

  undone_terms : (ts : List FoTerm) → Each Whole ts → Each (Undone v w) (concat (map variables_of ts))
  undone_terms [] h = tt
  undone_terms (t ∷ ts) h = each_append (Undone v w) (variables_of t) (concat (map variables_of ts)) (undone_term t h.0) (undone_terms ts h.1)

  undone_literals : (ls : List Literal) → Each Back ls → Each (Undone v w) (clause_variables ls)
  undone_literals [] h = tt
  undone_literals (l ∷ ls) h =
      each_append (Undone v w) (literal_variables l) (clause_variables ls) (undone_terms (atom_terms l.atom) (terms_of_back l h.0)) (undone_literals ls h.1)

  named_terms : (ts : List FoTerm) → Each (Undone v w) (concat (map variables_of ts)) → concat (map variables_of (map (put v) ts)) ≡ map (name v w) (concat (map variables_of ts))
  named_terms [] h = refl
  named_terms (t ∷ ts) h =
      let first = variables_renamed v w t (each_left (Undone v w) (variables_of t) (concat (map variables_of ts)) h) in
      let rest = named_terms ts (each_right (Undone v w) (variables_of t) (concat (map variables_of ts)) h) in
      (λ i. first i ++ rest i) ∙ sym (map-append (name v w) (variables_of t) (concat (map variables_of ts)))

  terms_put : (a : Atom) → atom_terms (put_atom v a) ≡ map (put v) (atom_terms a)
  terms_put (Holds t) = refl
  terms_put (Eq s t) = refl

  named_literals : (ls : List Literal) → Each (Undone v w) (clause_variables ls) → clause_variables (put_literals v ls) ≡ map (name v w) (clause_variables ls)
  named_literals [] h = refl
  named_literals (l ∷ ls) h =
      let here : literal_variables (put_literal v l) ≡ map (name v w) (literal_variables l) =
      ap (λ ts. concat (map variables_of ts)) (terms_put l.atom) ∙ named_terms (atom_terms l.atom) (each_left (Undone v w) (literal_variables l) (clause_variables ls) h) in
      let rest = named_literals ls (each_right (Undone v w) (literal_variables l) (clause_variables ls) h) in
      (λ i. here i ++ rest i) ∙ sym (map-append (name v w) (literal_variables l) (clause_variables ls))

  -- ---- numbers

  module _ (seen : List ℕ) (all : Each (Undone v w) seen) where
    atom_renumbered : (a : Atom) → Each (Undone v w) (concat (map variables_of (atom_terms a))) → put_atom (numbering (map (name v w) seen)) (put_atom v a) ≡ put_atom (numbering seen) a
    atom_renumbered (Holds t) h = ap Holds (renumbered v w seen all t (each_left (Undone v w) (variables_of t) [] h))
    atom_renumbered (Eq s t) h =
        let left = renumbered v w seen all s (each_left (Undone v w) (variables_of s) (variables_of t ++ []) h) in
        let right = renumbered v w seen all t (each_left (Undone v w) (variables_of t) [] (each_right (Undone v w) (variables_of s) (variables_of t ++ []) h)) in
        λ i. Eq (left i) (right i)

    literals_renumbered : (ls : List Literal) → Each (Undone v w) (clause_variables ls) → put_literals (numbering (map (name v w) seen)) (put_literals v ls) ≡ put_literals (numbering seen) ls
    literals_renumbered [] h = refl
    literals_renumbered (l ∷ ls) h =
        let here = atom_renumbered l.atom (each_left (Undone v w) (literal_variables l) (clause_variables ls) h) in
        let rest = literals_renumbered ls (each_right (Undone v w) (literal_variables l) (clause_variables ls) h) in
        λ i. record { positive = l.positive; atom = here i } ∷ rest i

  numbered_kept : (ls : List Literal) → Each Back ls → numbered (put_literals v ls) ≡ numbered ls
  numbered_kept ls h =
      let all = undone_literals ls h in
      let seen : firsts ◌==◌ (clause_variables (put_literals v ls)) ≡ map (name v w) (firsts ◌==◌ (clause_variables ls)) =
      ap (firsts ◌==◌) (named_literals ls all) ∙ firsts_map_kept (name v w) (Undone v w) ◌==◌ ◌==◌ (clause_variables ls) (names_apart v w) all in
      ap (λ s. put_literals (numbering s) (put_literals v ls)) seen
      ∙ literals_renumbered (firsts ◌==◌ (clause_variables ls)) (firsts_each (Undone v w) ◌==◌ (clause_variables ls) all) ls all

  back_literals : (ls : List Literal) → put_literals w (put_literals v ls) ≡ ls → Each Back ls
  back_literals [] h = tt
  back_literals (l ∷ ls) h =
      let first : put_literal w (put_literal v l) ≡ l = cc in
      let rest : put_literals w (put_literals v ls) ≡ ls = cc in
      (first, back_literals ls rest)

  pub normal_kept : (ls : List Literal) → put_literals w (put_literals v ls) ≡ ls → normal_of (put_literals v ls) ≡ normal_of ls
  normal_kept ls h = let back = back_literals ls h in ap numbered (lasting_kept ls back) ∙ numbered_kept (lasting ls) (lasting_back ls back)

pub one_normal_form : (a b : List Literal) → HaveOneNormalForm a b
one_normal_form a b v w to from = sym (normal_kept v w a (ap (put_literals w) to ∙ from)) ∙ ap normal_of to
