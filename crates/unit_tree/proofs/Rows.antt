-- A tree with one more node.
use Rattle.std.proofs.Common.{◌≡◌, ℕ, zero, suc, ◌+◌, ◌<◌, ◌⊎◌, inl, inr, List, [], ◌∷◌, ◌++◌, length, get_or, set, Result, Ok, Err, refl, sym, ap, subst, ◌∙◌, arith}
use Rattle.std.specs.Prelude.{Contains, IfOk}
use Rattle.std.proofs.lemmas.List.{length-append, length-set}
use Rattle.std.proofs.lemmas.List.Elements.{Contains-append_left, Contains-push, Contains-push_cases}
use Rattle.unit_tree.specs.declared.token.Token.{Token}
use Rattle.unit_tree.specs.declared.token.Edge.{Edge}
use Rattle.unit_tree.specs.Tree.{Leads, Reached, IsTree}
use Rattle.unit_tree.specs.inner.Growth.{GrowsBy, grown}

padded : (nodes : List (List Edge)) (n : ℕ) → get_or (nodes ++ [] ∷ []) n [] ≡ get_or nodes n []
padded [] zero = refl
padded [] (suc n) = refl
padded (row ∷ nodes) zero = refl
padded (row ∷ nodes) (suc n) = padded nodes n

other_row : (nodes : List (List Edge)) (at n : ℕ) (row : List Edge) → (n ≡ at → ⊥) → get_or (set nodes at row ++ [] ∷ []) n [] ≡ get_or nodes n []
other_row [] at n row apart = padded [] n
other_row (r ∷ nodes) zero zero row apart = absurd (apart refl)
other_row (r ∷ nodes) zero (suc n) row apart = padded nodes n
other_row (r ∷ nodes) (suc at) zero row apart = refl
other_row (r ∷ nodes) (suc at) (suc n) row apart = other_row nodes at n row (λ e. apart (ap suc e))

this_row : (nodes : List (List Edge)) (at : ℕ) (row : List Edge) → at < length nodes → get_or (set nodes at row ++ [] ∷ []) at [] ≡ row
this_row [] at row h = absurd (omega arith)
this_row (r ∷ nodes) zero row h = refl
this_row (r ∷ nodes) (suc at) row h = this_row nodes at row (omega arith)

set_padded : (nodes : List (List Edge)) (at : ℕ) (row : List Edge) → at < length nodes → set (nodes ++ [] ∷ []) at row ≡ set nodes at row ++ [] ∷ []
set_padded [] at row h = absurd (omega (arith, h))
set_padded (r ∷ nodes) zero row h = refl
set_padded (r ∷ nodes) (suc at) row h = ap (λ l. r ∷ l) (set_padded nodes at row (omega (arith, h)))

get_same : (nodes : List (List Edge)) (i : ℕ) (d e : List Edge) → i < length nodes → get_or nodes i d ≡ get_or nodes i e
get_same [] i d e h = absurd (omega (arith, h))
get_same (x ∷ xs) zero d e h = refl
get_same (x ∷ xs) (suc i) d e h = get_same xs i d e (omega (arith, h))

-- what the code writes is that tree
pub added : (nodes now : List (List Edge)) (at to : ℕ) (token : Token) (row next : List Edge) → at < length nodes → to ≡ length nodes → now ≡ nodes ++ [] ∷ [] → row ≡ get_or now at row
    → next ≡ row ++ record { token = token; to = to } ∷ [] → set now at next ≡ grown nodes at token
added nodes now at to token row next within new is old push =
    let here : row ≡ get_or nodes at [] =
    old ∙ ap (λ l. get_or l at row) is ∙ get_same (nodes ++ [] ∷ []) at row [] (omega (arith, length-append nodes ([] ∷ []))) ∙ padded nodes at in
    let full : next ≡ get_or nodes at [] ++ record { token = token; to = length nodes } ∷ [] = push ∙ (λ i. here i ++ record { token = token; to = new i } ∷ []) in
    ap (λ l. set l at next) is ∙ set_padded nodes at next within ∙ ap (λ r. set nodes at r ++ [] ∷ []) full

pub if_ok : {X E : Type 0} (r : Result X E) (P Q : X → Type 0) → ((x : X) → P x → Q x) → IfOk r P → IfOk r Q
if_ok (Ok x) P Q f h = f x h
if_ok (Err e) P Q f h = h

same_or_not : (n m : ℕ) → (n ≡ m) ⊎ (n ≡ m → ⊥)
same_or_not zero zero = inl refl
same_or_not zero (suc m) = inr (λ e. omega (arith, e))
same_or_not (suc n) zero = inr (λ e. omega (arith, e))
same_or_not (suc n) (suc m) = elim (same_or_not n m) [ inl e ↦ inl (ap suc e) | inr apart ↦ inr (λ e. apart (omega (arith, e))) ]

module _ (nodes : List (List Edge)) (at : ℕ) (token : Token) (within : at < length nodes) where
  abbrev edge : Edge
  edge = record { token = token; to = length nodes }

  abbrev row : List Edge
  row = get_or nodes at [] ++ edge ∷ []

  here_row : get_or (grown nodes at token) at [] ≡ row
  here_row = this_row nodes at row within

  there_row : (n : ℕ) → (n ≡ at → ⊥) → get_or (grown nodes at token) n [] ≡ get_or nodes n []
  there_row n apart = other_row nodes at n row apart

  pub leads_here : Leads (grown nodes at token) at token (length nodes)
  leads_here = subst (λ r. Contains r edge) (sym here_row) (Contains-push (get_or nodes at []) edge)

  pub leads_still : (n m : ℕ) (t : Token) → Leads nodes n t m → Leads (grown nodes at token) n t m
  leads_still n m t h = elim (same_or_not n at) [
    | inl e ↦ subst (λ k. Leads (grown nodes at token) k t m) (sym e)
        (subst (λ r. Contains r (record { token = t; to = m })) (sym here_row)
        (Contains-append_left (get_or nodes at []) (edge ∷ []) (record { token = t; to = m }) (subst (λ k. Leads nodes k t m) e h)))
    | inr apart ↦ subst (λ r. Contains r (record { token = t; to = m })) (sym (there_row n apart)) h
  ]

  abbrev pub IsNew : ℕ → Token → ℕ → Type 0
  IsNew n t m = (n ≡ at) × (t ≡ token) × (m ≡ length nodes)

  new_edge : (n m : ℕ) (t : Token) → n ≡ at → edge ≡ record { token = t; to = m } → IsNew n t m
  new_edge n m t e is = (e, ap (λ k. k.token) (sym is), ap (λ k. k.to) (sym is))

  pub leads_was : (n m : ℕ) (t : Token) → Leads (grown nodes at token) n t m → Leads nodes n t m ⊎ IsNew n t m
  leads_was n m t h = elim (same_or_not n at) [
    | inl e ↦ elim (Contains-push_cases (get_or nodes at []) edge (record { token = t; to = m }) (subst (λ r. Contains r (record { token = t; to = m })) here_row (subst (λ k. Leads (grown nodes at token) k t m) e h))) [
      | inl old ↦ inl (subst (λ k. Leads nodes k t m) (sym e) old)
      | inr is ↦ inr (new_edge n m t e is)
    ]
    | inr apart ↦ inl (subst (λ r. Contains r (record { token = t; to = m })) (there_row n apart) h)
  ]

  grown_length : length (grown nodes at token) ≡ length nodes + 1
  grown_length = omega (arith, length-append (set nodes at row) ([] ∷ []), length-set nodes at row)

  -- ---- ways in the tree with one more node

  pub reached_still : (word : List Token) (n : ℕ) → Reached nodes word n → Reached (grown nodes at token) word n
  reached_still [] n h = h
  reached_still (t ∷ word) n h = (h.0, reached_still word h.0 h.1, leads_still h.0 n t h.2)

  abbrev pub IsNewWay : List Token → ℕ → Type 0
  IsNewWay word n = (front : List Token) × (word ≡ token ∷ front) × Reached nodes front at × (n ≡ length nodes)

  step_was : IsTree nodes → (t : Token) (word : List Token) (m n : ℕ) → Reached nodes word m ⊎ IsNewWay word m → Leads nodes m t n ⊎ IsNew m t n
      → Reached nodes (t ∷ word) n ⊎ IsNewWay (t ∷ word) n
  step_was tree t word m n (inl old) (inl edge) = inl (m, old, edge)
  step_was tree t word m n (inl old) (inr new) = inr (word, ap (λ k. k ∷ word) new.1, subst (Reached nodes word) new.0 old, new.2)
  step_was tree t word m n (inr way) (inl edge) = absurd (omega (arith, way.3, tree.later m n t edge, tree.within m n t edge))
  step_was tree t word m n (inr way) (inr new) = absurd (omega (arith, way.3, new.0, within))

  reached_was : IsTree nodes → (word : List Token) (n : ℕ) → Reached (grown nodes at token) word n → Reached nodes word n ⊎ IsNewWay word n
  reached_was tree [] n h = inl h
  reached_was tree (t ∷ word) n h = step_was tree t word h.0 n (reached_was tree word h.0 h.1) (leads_was h.0 n t h.2)

  apart_was : (word : List Token) (n : ℕ) → Reached nodes word n ⊎ IsNewWay word n → Reached nodes word n ⊎ ((front : List Token) × (word ≡ token ∷ front) × Reached nodes front at)
  apart_was word n (inl old) = inl old
  apart_was word n (inr way) = inr (way.0, way.1, way.2)

  one_was : IsTree nodes → (n o m : ℕ) (t s : Token) → Leads nodes n t m ⊎ IsNew n t m → Leads nodes o s m ⊎ IsNew o s m → (n ≡ o) × (t ≡ s)
  one_was tree n o m t s (inl a) (inl b) = tree.one n o m t s a b
  one_was tree n o m t s (inl a) (inr b) = absurd (omega (arith, tree.within n m t a, b.2))
  one_was tree n o m t s (inr a) (inl b) = absurd (omega (arith, tree.within o m s b, a.2))
  one_was tree n o m t s (inr a) (inr b) = (a.0 ∙ sym b.0, a.1 ∙ sym b.1)

  later_was : IsTree nodes → (n m : ℕ) (t : Token) → Leads nodes n t m ⊎ IsNew n t m → (n < m) × (m < length nodes + 1)
  later_was tree n m t (inl a) = (tree.later n m t a, omega (arith, tree.within n m t a))
  later_was tree n m t (inr a) = (omega (arith, a.0, a.2, within), omega (arith, a.2))

  pub grown_tree : IsTree nodes → IsTree (grown nodes at token)
  grown_tree tree = record {
    rooted = omega (arith, grown_length);
    later = λ n m t h. (later_was tree n m t (leads_was n m t h)).0;
    within = λ n m t h. omega (arith, grown_length, (later_was tree n m t (leads_was n m t h)).1);
    one = λ n o m t s h k. one_was tree n o m t s (leads_was n m t h) (leads_was o m s k);
  }

  pub grows_by : IsTree nodes → GrowsBy nodes (grown nodes at token) at token (length nodes)
  grows_by tree = record {
    tree = grown_tree tree;
    within = omega (arith, grown_length);
    stays = reached_still;
    leads = λ word h. (at, reached_still word at h, leads_here);
    apart = λ word n h. apart_was word n (reached_was tree word n h);
  }

pub stays_by : (nodes : List (List Edge)) (at to : ℕ) (token : Token) → IsTree nodes → Leads nodes at token to → GrowsBy nodes nodes at token to
stays_by nodes at to token tree leads = record {
  tree = tree;
  within = tree.within at to token leads;
  stays = λ word n h. h;
  leads = λ word h. (at, h, leads);
  apart = λ word n h. inl h;
}

pub grows_as : (nodes new : List (List Edge)) (at to : ℕ) (token : Token) → at < length nodes → IsTree nodes → to ≡ length nodes → new ≡ grown nodes at token → GrowsBy nodes new at token to
grows_as nodes new at to token within tree to_is new_is =
    subst (λ n. GrowsBy nodes new at token n) (sym to_is) (subst (λ k. GrowsBy nodes k at token (length nodes)) (sym new_is) (grows_by nodes at token within tree))
