-- What was read of a type whose sides are open.
use Rattle.std.proofs.Common.{◌≡◌, ℕ, ◌+◌, Option, Some, None, List, [], ◌∷◌, ◌++◌, map, refl, sym, subst, append_assoc, arith}
use Rattle.std.proofs.lemmas.List.{append-nil}
use Rattle.hol_terms.specs.declared.ty.Ty.{Ty}
use Rattle.hol_terms.specs.declared.ty.Ty.TheVariants as types
use Rattle.theory_terms.specs.Words.{place}
use Rattle.proof_syntax.specs.Tokens.{Word, open_round, greater, close_round}
use Rattle.proof_syntax.specs.Names.{Names, number_of}
use Rattle.proof_syntax.specs.Grammar.{Placed, at, most, name, name_level, IsType, base, arrow}
use Rattle.proof_syntax.specs.Machine.{Frame, From, To, level, State, WantType, end_type}
use Rattle.proof_syntax.specs.Parts.{BegunType, Below, wants_type}
use Rattle.proof_terms.specs.declared.sides.Side.{Side}
use Rattle.proof_terms.specs.declared.sides.Side.TheVariants as side
use Rattle.proof_terms.proofs.Passed.{Passed}

-- what stands before a part of a type, with the sides that are open there
pub data Around (names : Names) (l : ℕ) : List Side → List Placed → Type 0 where
  outside : Around names l [] []
  left : {s : List Side} {p : List Placed} → Around names l s p → Around names l (side.From ∷ s) (p ++ at l open_round ∷ [])
  right : {s : List Side} {p q : List Placed} {f : Ty} → Around names l s p → IsType names l q f →
      Around names l (side.To f ∷ s) (p ++ (at l open_round ∷ q ++ at l greater ∷ []))

-- and then the part, where it is read
pub record Part (names : Names) (l : ℕ) (s : List Side) (a : Ty) (p : List Placed) : Type 0 where
  pub before : List Placed
  pub own : List Placed
  pub split : p ≡ before ++ own
  pub around : Around names l s before
  pub derived : IsType names l own a

abbrev pub Come : Names → ℕ → List Side → Option Ty → List Placed → Type 0
Come names l s None p = Around names l s p
Come names l s (Some a) p = Part names l s a p

abbrev pub frame_of : Side → Frame
frame_of side.From = From
frame_of (side.To a) = To a

-- the sides within these frames
abbrev pub within : List Side → List Frame → List Frame
within s k = map frame_of s ++ k

abbrev pub state_of : List Side → Option Ty → List Frame → State
state_of s None k = WantType (within s k)
state_of s (Some a) k = end_type a (within s k)

pub record SoFar (names : Names) (l : ℕ) (text : List ℕ) (s : List Side) (had : Option Ty) (rest : List ℕ) : Type 0 where
  pub placed : List Placed
  pub come : Come names l s had placed
  pub passed : Passed names (Below l) (wants_type l) (λ i. state_of s had i.frames) text rest placed

pub level_within : (s : List Side) (k : List Frame) → level (within s k) ≡ level k
level_within [] k = refl
level_within (side.From ∷ s) k = let h = level_within s k in omega arith
level_within (side.To a ∷ s) k = let h = level_within s k in omega arith

-- ---- the sides may be closed

pub anything : (names : Names) (l : ℕ) → IsType names l (name l [] names.types ∷ []) (types.Base (number_of (place [] names.types)))
anything names l = base

after_left : (p q r : List Placed) (o g b c : Placed) → ((p ++ o ∷ []) ++ q) ++ (g ∷ b ∷ c ∷ r) ≡ (p ++ (o ∷ q ++ g ∷ (b ∷ []) ++ c ∷ [])) ++ r
after_left p q r o g b c = simp append_assoc refl

after_right : (p f q r : List Placed) (o g c : Placed) → ((p ++ (o ∷ f ++ g ∷ [])) ++ q) ++ (c ∷ r) ≡ (p ++ (o ∷ f ++ g ∷ q ++ c ∷ [])) ++ r
after_right p f q r o g c = simp append_assoc refl

pub closes : {names : Names} {l : ℕ} {s : List Side} {p : List Placed} → Around names l s p → (q : List Placed) (a : Ty) → IsType names l q a → BegunType names l (p ++ q)
closes {names} {l} outside q a d = ([], a, subst (λ x. IsType names l x a) (sym (append-nil q)) d)
closes {names} {l} (left {s} {p} c) q a d =
    let n = name l [] names.types in
    let h = closes c (at l open_round ∷ q ++ at l greater ∷ (n ∷ []) ++ at l close_round ∷ []) _ (arrow d (anything names l)) in (
      at l greater ∷ n ∷ at l close_round ∷ h.0,
      h.1,
      subst (λ x. IsType names l x h.1) (sym (after_left p q h.0 (at l open_round) (at l greater) n (at l close_round))) h.2,
    )
closes {names} {l} (right {s} {p} {q} {f} c e) own a d =
    let h = closes c (at l open_round ∷ q ++ at l greater ∷ own ++ at l close_round ∷ []) _ (arrow e d) in
    (at l close_round ∷ h.0, h.1, subst (λ x. IsType names l x h.1) (sym (after_right p q own h.0 (at l open_round) (at l greater) (at l close_round))) h.2)

pub begun : {names : Names} {l : ℕ} {s : List Side} {p : List Placed} → Around names l s p → BegunType names l p
begun {names} {l} {s} {p} c =
    let n = name l [] names.types in
    let h = closes c (n ∷ []) _ (anything names l) in
    (n ∷ h.0, h.1, subst (λ x. IsType names l x h.1) (append_assoc p (n ∷ []) h.0) h.2)

pub begun_part : {names : Names} {l : ℕ} {s : List Side} {a : Ty} {p : List Placed} → Part names l s a p → BegunType names l p
begun_part {names} {l} {s} {a} {p} g = subst (λ x. BegunType names l x) (sym g.split) (closes g.around g.own a g.derived)

-- ---- what is around a part

pub nothing_around : {names : Names} {l : ℕ} {p : List Placed} → Around names l [] p → p ≡ []
nothing_around outside = refl

pub record Left (names : Names) (l : ℕ) (s : List Side) (p : List Placed) : Type 0 where
  pub outer : List Placed
  pub split : p ≡ outer ++ at l open_round ∷ []
  pub around : Around names l s outer

pub left_of : {names : Names} {l : ℕ} {s : List Side} {p : List Placed} → Around names l (side.From ∷ s) p → Left names l s p
left_of (left {s} {p} c) = record { outer = p; split = refl; around = c }

pub record Right (names : Names) (l : ℕ) (f : Ty) (s : List Side) (p : List Placed) : Type 0 where
  pub outer : List Placed
  pub side : List Placed
  pub split : p ≡ outer ++ (at l open_round ∷ side ++ at l greater ∷ [])
  pub around : Around names l s outer
  pub derived : IsType names l side f

pub right_of : {names : Names} {l : ℕ} {f : Ty} {s : List Side} {p : List Placed} → Around names l (side.To f ∷ s) p → Right names l f s p
right_of (right {s} {p} {q} {f} c e) = record { outer = p; side = q; split = refl; around = c; derived = e }

-- ---- base types

pub base_of : (names : Names) (l n : ℕ) (x : List ℕ) → place x names.types ≡ Some n → IsType names l (at l (Word x) ∷ []) (types.Base n)
base_of names l n x e = subst (λ o. IsType names l (at (name_level l o) (Word x) ∷ []) (types.Base (number_of o))) e base

pub base_unknown : (names : Names) (l : ℕ) (x : List ℕ) → place x names.types ≡ None → IsType names l (at (most + 1) (Word x) ∷ []) (types.Base 0)
base_unknown names l x e = subst (λ o. IsType names l (at (name_level l o) (Word x) ∷ []) (types.Base (number_of o))) e base
