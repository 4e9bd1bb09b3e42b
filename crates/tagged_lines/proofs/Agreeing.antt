-- What a term is read as depends on the types of its own variables alone.
use Rattle.std.proofs.Common.{◌≡◌, ℕ, Bool, true, false, ◌==◌, if◌then◌else◌, List, [], ◌∷◌, ◌++◌, map, refl, sym, ap, subst, ◌∙◌, None}
use Rattle.std.specs.List.{list_any, concat}
use Rattle.fo_terms.specs.declared.term.FoTerm.{FoTerm}
use Rattle.fo_terms.specs.declared.atom.Atom.{Atom}
use Rattle.fo_terms.specs.declared.atom.Atom.TheVariants.{Holds, Eq}
use Rattle.fo_terms.specs.declared.literal.Literal.{Literal}
use Rattle.fo_terms.specs.Normal.{variables_of, atom_terms, literal_variables, clause_variables}
use Rattle.fo_terms.proofs.Induction.{Each, by_cases}
use Rattle.fo_terms.proofs.Renaming.{each_left, each_right, each_map, variables_var, variables_fun}
use Rattle.tagged_terms.specs.Readings.{Signs, Types, variable, read_symbol, reading}
use Rattle.tagged_terms.specs.Clauses.{IsAtom, IsClause}
use Rattle.tagged_terms.proofs.Steps.{read_var, read_fun}
use Rattle.tagged_lines.specs.Variables.{own}
use Rattle.tagged_lines.proofs.Items.{Listed, each_listed}

module _ (signs : Signs) (old new : Types) where
  abbrev Agree : List ℕ → Type 0
  Agree xs = Each (λ x. old x ≡ new x) xs

  abbrev Same : FoTerm → Type 0
  Same t = Agree (variables_of t) → reading signs old t ≡ reading signs new t

  same_all : (ts : List FoTerm) → Each Same ts → Agree (concat (map variables_of ts)) → map (reading signs old) ts ≡ map (reading signs new) ts
  same_all [] each h = refl
  same_all (t ∷ ts) each h =
      let first = each.0 (each_left (λ x. old x ≡ new x) (variables_of t) (concat (map variables_of ts)) h) in
      let rest = same_all ts each.1 (each_right (λ x. old x ≡ new x) (variables_of t) (concat (map variables_of ts)) h) in
      λ i. first i ∷ rest i

  pub same_reading : (t : FoTerm) → Same t
  same_reading = by_cases Same
      (λ x h. read_var signs old x ∙ ap (λ o. variable o x) (subst Agree (variables_var x) h).0 ∙ sym (read_var signs new x))
      (λ f ts each h. read_fun signs old f ts ∙ ap (read_symbol (signs f)) (same_all ts each (subst Agree (variables_fun f ts) h)) ∙ sym (read_fun signs new f ts))

  same_atom : (a : Atom) → Agree (concat (map variables_of (atom_terms a))) → IsAtom signs old a → IsAtom signs new a
  same_atom (Holds t) h k = sym (same_reading t (each_left (λ x. old x ≡ new x) (variables_of t) [] h)) ∙ k
  same_atom (Eq s t) h k =
      let left = same_reading s (each_left (λ x. old x ≡ new x) (variables_of s) (variables_of t ++ []) h) in
      let right = same_reading t (each_left (λ x. old x ≡ new x) (variables_of t) [] (each_right (λ x. old x ≡ new x) (variables_of s) (variables_of t ++ []) h)) in
      (sym left ∙ k.0, sym right ∙ k.1, k.2)

  pub same_clause : (ls : List Literal) → Agree (clause_variables ls) → IsClause signs old ls → IsClause signs new ls
  same_clause [] h k = tt
  same_clause (l ∷ ls) h k = (
    same_atom l.atom (each_left (λ x. old x ≡ new x) (literal_variables l) (clause_variables ls) h) k.0,
    same_clause ls (each_right (λ x. old x ≡ new x) (literal_variables l) (clause_variables ls) h) k.1,
  )

chosen : (types : Types) (x : ℕ) (test : Bool) → test ≡ true → types x ≡ (if test then types x else None)
chosen types x true h = refl
chosen types x false h = cc

-- the types of a clause's own variables serve it
pub own_clause : (signs : Signs) (types : Types) (ls : List Literal) → IsClause signs types ls → IsClause signs (own ls types) ls
own_clause signs types ls h =
    same_clause signs types (own ls types) ls
    (each_map (Listed (clause_variables ls)) (λ x. types x ≡ own ls types x) (clause_variables ls) (λ x k. chosen types x (list_any (λ y. y == x) (clause_variables ls)) k) (each_listed (clause_variables ls)))
    h
