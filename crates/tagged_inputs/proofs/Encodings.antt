-- Clauses that are typed over a table, encoded.
use Rattle.std.proofs.Common.{◌≡◌, ℕ, zero, suc, ◌<◌, Bool, List, [], ◌∷◌, ◌++◌, map, slice_get, Some, refl, sym, ap, subst, ◌∙◌}
use Rattle.std.specs.List.{flat_map}
use Rattle.hol_terms.specs.declared.ty.Ty.{Ty}
use Rattle.hol_terms.specs.declared.sig.Sig.{Sig}
use Rattle.hol_terms.specs.declared.term.Term.{Term}
use Rattle.hol_terms.specs.declared.literal.TypedLiteral.{TypedLiteral}
use Rattle.lambda_lift.specs.declared.table.Aux.{Aux}
use Rattle.lambda_lift.specs.Standing.{Each, StandsAlone}
use Rattle.lambda_lift.proofs.Expansions.{within}
use Rattle.formula_clauses.specs.Walks.{Clauses}
use Rattle.fol_encode.specs.declared.sign.Sign.{Sign}
use Rattle.fol_encode.specs.Signs.{symbols_of}
use Rattle.fol_encode.specs.Occurring.{occurring, signs_for}
use Rattle.fol_encode.specs.Laws.{Covers}
use Rattle.fol_encode.proofs.Covering.{signs_cover}
use Rattle.tagged_terms.specs.Readings.{Signs, Types, signs_of}
use Rattle.tagged_terms.specs.Clauses.{IsClause}
use Rattle.clause_instances.specs.Theorems.{clause_of}
use Rattle.hol_clausify.specs.Typed.{IsTypedAtom, IsTypedClause}
use Rattle.hol_clausify.specs.Sources.{meaning}
use Rattle.goal_search.specs.Encoded.{atoms_in, atoms, encoded_literal, encoded_clause}
use Rattle.tagged_inputs.specs.Encodings.{IsEncoding, AreEncodings, ClausesAreEncoded}
use Rattle.tagged_inputs.proofs.Sides.{numbered}
use Rattle.tagged_inputs.proofs.Atoms.{Stands, atom_stands}
use Rattle.tagged_inputs.proofs.SignsOver.{IsAtom, each_over, signs_over}

-- ---- lists
module _ {X : Type 0} (P : X → Type 0) where
  each_left : (xs ys : List X) → Each P (xs ++ ys) → Each P xs
  each_left xs ys h i x e = h i x (within xs i x e ys)

  each_right : (xs ys : List X) → Each P (xs ++ ys) → Each P ys
  each_right [] ys h = h
  each_right (x ∷ xs) ys h = each_right xs ys (λ i. h (suc i))

  each_append : (xs ys : List X) → Each P xs → Each P ys → Each P (xs ++ ys)
  each_append [] ys hx hy i y e = hy i y e
  each_append (x ∷ xs) ys hx hy zero y e = hx zero y e
  each_append (x ∷ xs) ys hx hy (suc i) y e = each_append xs ys (λ j. hx (suc j)) hy i y e

  each_none : Each P []
  each_none i x e = absurd cc

-- ---- the atoms of clauses
abbrev OfAtom : (Term → Type 0) → TypedLiteral → Type 0
OfAtom P l = P l.atom

module _ (P : Term → Type 0) where
  atoms_each : (ls : List TypedLiteral) → Each P (atoms_in ls) → Each (OfAtom P) ls
  atoms_each [] h i l e = absurd cc
  atoms_each (k ∷ ls) h zero l e = let same : k ≡ l = cc in subst (OfAtom P) same (h zero k.atom refl)
  atoms_each (k ∷ ls) h (suc i) l e = atoms_each ls (λ j. h (suc j)) i l e

  each_atom : (ls : List TypedLiteral) → Each (OfAtom P) ls → Each P (atoms_in ls)
  each_atom [] h i t e = absurd cc
  each_atom (k ∷ ls) h zero t e = let same : k.atom ≡ t = cc in subst P same (h zero k refl)
  each_atom (k ∷ ls) h (suc i) t e = each_atom ls (λ j. h (suc j)) i t e

  clauses_each : (cs : Clauses) → Each P (atoms cs) → Each (λ c. Each (OfAtom P) c) cs
  clauses_each [] h i c e = absurd cc
  clauses_each (d ∷ cs) h zero c e = let same : d ≡ c = cc in subst (λ c. Each (OfAtom P) c) same (atoms_each d (each_left P (atoms_in d) (atoms cs) h))
  clauses_each (d ∷ cs) h (suc i) c e = clauses_each cs (each_right P (atoms_in d) (atoms cs) h) i c e

  each_clause : (cs : Clauses) → Each (λ c. Each (OfAtom P) c) cs → Each P (atoms cs)
  each_clause [] h = each_none P
  each_clause (d ∷ cs) h = each_append P (atoms_in d) (atoms cs) (each_atom d (h zero d refl)) (each_clause cs (λ i. h (suc i)))

-- ---- one clause
module _ (sig : Sig) (table : List Aux) (signs : List Sign) where
  abbrev syms : Signs
  syms = signs_of (symbols_of table signs)

  abbrev CoveredBy : Term → Type 0
  CoveredBy t = Covers signs (occurring sig table t)

  module _ (types : List Ty) where
    literal_stands : (l : TypedLiteral) → IsTypedAtom sig table types l.atom → CoveredBy l.atom → Stands sig table signs (slice_get types) l.atom (encoded_literal signs l).atom
    literal_stands l is covered =
        atom_stands sig table signs (slice_get types) l.atom (record { without_lambda = is.without_lambda; covered = covered; variables = λ n a o. numbered types n a l.atom is.numbered o }) is.typed

    tagged_clause : (ls : List TypedLiteral) → Each (λ l. IsTypedAtom sig table types l.atom) ls → Each (OfAtom CoveredBy) ls → IsClause syms (slice_get types) (encoded_clause signs ls).literals
    tagged_clause [] h covered = tt
    tagged_clause (l ∷ ls) h covered =
        ((literal_stands l (h zero l refl) (covered zero l refl)).tagged, tagged_clause ls (λ i. h (suc i)) (λ i. covered (suc i)))

    clause_stands : (ls : List TypedLiteral) → Each (λ l. IsTypedAtom sig table types l.atom) ls → Each (OfAtom CoveredBy) ls → clause_of syms (encoded_clause signs ls).literals ≡ map (meaning table) ls
    clause_stands [] h covered = refl
    clause_stands (l ∷ ls) h covered =
        let here = (literal_stands l (h zero l refl) (covered zero l refl)).formula in
        let rest = clause_stands ls (λ i. h (suc i)) (λ i. covered (suc i)) in
        (λ i. record { positive = l.positive; atom = here i } ∷ rest i)

  encoding : (c : List TypedLiteral) → IsTypedClause sig table c → Each (OfAtom CoveredBy) c → IsEncoding table signs c
  encoding c typed covered = record {
    tagged = (slice_get typed.types, tagged_clause typed.types c typed.atoms covered);
    stands = clause_stands typed.types c typed.atoms covered;
  }

-- ---- all of them
pub are_encodings : (sig : Sig) (table : List Aux) (cs : Clauses) → ClausesAreEncoded sig table cs
are_encodings sig table cs has_bool alone typed =
    let signs = signs_for sig table (atoms cs) in
    let covered = clauses_each (λ t. Covers signs (occurring sig table t)) cs (signs_cover sig table (atoms cs)) in
    let are = each_clause (IsAtom sig table has_bool alone) cs (λ i c e j l f. (let is = (typed i c e).atoms j l f in record { typed = is.typed; without_lambda = is.without_lambda })) in
    record {
      signs = signs_over sig table has_bool alone signs (each_over sig table has_bool alone (atoms cs) are);
      clauses = λ i c e. encoding sig table signs c (typed i c e) (covered i c e);
    }
