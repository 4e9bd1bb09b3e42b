-- The text of a type is derivable.
use Rattle.std.proofs.Common.{◌≡◌, ℕ, ◌<◌, ◌≤◌, nat_lt, IsTrue, List, [], ◌∷◌, ◌++◌, length, codes, refl, sym, ap, subst, ◌∙◌, append_assoc, rules}
use Rattle.text_kit.specs.Tokens.{is_word_byte, StopsAt}
use Rattle.hol_terms.specs.declared.ty.Ty.{Ty, roll-Ty}
use Rattle.hol_terms.specs.declared.ty.Ty as views
use Rattle.hol_terms.specs.declared.ty.Ty.TheVariants as types
use Rattle.hol_terms.specs.declared.ty.Ty.TheOpen.{Ty-F}
use Rattle.hol_terms.specs.declared.ty.Ty.TheFolds.{fold-roll-Ty}
use Rattle.hol_terms.specs.Types.{ty_fits}
use Rattle.hol_terms.proofs.Both.{both_true}
use Rattle.hol_terms.proofs.Equations.{ty_fits-base, ty_fits-arrow}
use Rattle.hol_terms.proofs.TyCases.{by_cases}
use Rattle.theory_terms.specs.Words.{place}
use Rattle.proof_syntax.specs.Names.{Names, name_in, number_of}
use Rattle.proof_syntax.specs.Tokens.{open_round, close_round, greater}
use Rattle.proof_syntax.specs.Grammar.{Placed, at, most, name, name_level, IsType, base, arrow}
use Rattle.proof_syntax.specs.Texts.{type_step, type_text}
use Rattle.proof_text.proofs.Places.{IsDeclared}
use Rattle.proof_text.proofs.Lying.{Lies, word_lies, between}

-- ---- names

-- a name stands at the level of its place
pub name_lies : (names : List (List ℕ)) (n l : ℕ) (rest : List ℕ) → IsDeclared names n → l ≤ most → StopsAt is_word_byte rest →
    Lies (name_in names n ++ rest) (name l (name_in names n) names ∷ []) rest
name_lies names n l rest is low stops =
    let level : l ≡ name_level l (place (name_in names n) names) = ap (name_level l) (sym is.found) in
    word_lies (name_level l (place (name_in names n) names)) (name_in names n) rest (subst (λ m. m ≤ most) level low) is.wordy stops

pub name_number : (names : List (List ℕ)) (n : ℕ) → IsDeclared names n → number_of (place (name_in names n) names) ≡ n
name_number names n is = ap number_of is.found

-- ---- types

pub base_is : (n : ℕ) → types.Base n ≡ roll-Ty (Ty-F.Base n)
unfolding views.roll-Ty denote.Hole.Carrier.roll
base_is n = refl

pub arrow_is : (a b : Ty) → types.Arrow a b ≡ roll-Ty (Ty-F.Arrow a b)
unfolding views.roll-Ty denote.Hole.Carrier.roll
arrow_is a b = refl

module _ (names : Names) where
  pub record TypeLies (l : ℕ) (a : Ty) (rest : List ℕ) : Type 0 where
    pub placed : List Placed
    pub derived : IsType names l placed a
    pub lies : Lies (type_text names a ++ rest) placed rest

  pub base_text : (n : ℕ) → type_text names (roll-Ty (Ty-F.Base n)) ≡ name_in names.types n
  base_text n = fold-roll-Ty (List ℕ) (type_step names) (Ty-F.Base n)

  pub arrow_text : (a b : Ty) → type_text names (roll-Ty (Ty-F.Arrow a b)) ≡ codes "(" ++ type_text names a ++ codes ">" ++ type_text names b ++ codes ")"
  arrow_text a b = fold-roll-Ty (List ℕ) (type_step names) (Ty-F.Arrow a b)

  module _ (each : (n : ℕ) → n < length names.types → IsDeclared names.types n) where
    abbrev Lie : Ty → Type 0
    Lie a = (l : ℕ) (rest : List ℕ) → IsTrue (ty_fits (length names.types) a) → l ≤ most → StopsAt is_word_byte rest → TypeLies l a rest

    base_lies : (n : ℕ) → Lie (roll-Ty (Ty-F.Base n))
    base_lies n l rest fits low stops =
        let small : IsTrue (nat_lt n (length names.types)) = sym (ty_fits-base (length names.types) n) ∙ fits in
        let is = each n (search (rules, small)) in
        record {
          placed = name l (name_in names.types n) names.types ∷ [];
          derived = subst (λ a. IsType names l (name l (name_in names.types n) names.types ∷ []) a) (ap (λ m. types.Base m) (name_number names.types n is) ∙ base_is n) base;
          lies = subst (λ w. Lies (w ++ rest) (name l (name_in names.types n) names.types ∷ []) rest) (sym (base_text n)) (name_lies names.types n l rest is low stops);
        }

    pieces : (a b rest : List ℕ) → (codes "(" ++ a ++ codes ">" ++ b ++ codes ")") ++ rest ≡ 40 ∷ (a ++ 62 ∷ (b ++ 41 ∷ rest))
    pieces a b rest = simp append_assoc

    arrow_lies : (a b : Ty) → Lie a → Lie b → Lie (roll-Ty (Ty-F.Arrow a b))
    arrow_lies a b ha hb l rest fits low stops =
        let both = both_true (ty_fits (length names.types) a) (ty_fits (length names.types) b) (sym (ty_fits-arrow (length names.types) a b) ∙ fits) in
        let behind = type_text names b ++ 41 ∷ rest in
        let x = ha l (62 ∷ behind) both.0 low refl in
        let y = hb l (41 ∷ rest) both.1 low refl in
        let p = at l open_round ∷ x.placed ++ at l greater ∷ y.placed ++ at l close_round ∷ [] in
        record {
          placed = p;
          derived = subst (λ c. IsType names l p c) (arrow_is a b) (arrow x.derived y.derived);
          lies = subst (λ text. Lies text p rest) (sym (ap (λ w. w ++ rest) (arrow_text a b) ∙ pieces (type_text names a) (type_text names b) rest))
              (between l 40 62 41 (type_text names a) (type_text names b) rest x.placed y.placed low refl refl refl x.lies y.lies);
        }

    pub type_lies : (a : Ty) → Lie a
    type_lies a = by_cases Lie base_lies arrow_lies a
