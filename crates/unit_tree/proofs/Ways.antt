-- Ways through a tree.
use Rattle.std.proofs.Common.{◌≡◌, ℕ, List, [], ◌∷◌, refl, sym, subst, arith}
use Rattle.unit_tree.specs.declared.token.Token.{Token}
use Rattle.unit_tree.specs.declared.token.Edge.{Edge}
use Rattle.unit_tree.specs.Tree.{Reached, onto, IsTree}
use Rattle.unit_tree.specs.inner.Following.{GoesOn}

-- a way to a node and one from there on
pub joins : (nodes : List (List Edge)) (word front : List Token) (n : ℕ) → Reached nodes front n → GoesOn nodes n word → (to : ℕ) × Reached nodes (onto word front) to
joins nodes [] front n reached goes = (n, reached)
joins nodes (token ∷ word) front n reached goes = joins nodes word (token ∷ front) goes.0 (n, reached, goes.1) goes.2

pub parts : (nodes : List (List Edge)) (word front : List Token) (to : ℕ) → Reached nodes (onto word front) to → (n : ℕ) × Reached nodes front n × GoesOn nodes n word
parts nodes [] front to reached = (to, reached, tt)
parts nodes (token ∷ word) front to reached =
    let more : (n : ℕ) × Reached nodes (token ∷ front) n × GoesOn nodes n word = parts nodes word (token ∷ front) to reached in
    (more.1.0, more.1.1, (more.0, more.1.2, more.2))

pub goes_from_root : (nodes : List (List Edge)) (word : List Token) (to : ℕ) → Reached nodes (onto word []) to → GoesOn nodes 0 word
goes_from_root nodes word to reached =
    let more : (n : ℕ) × Reached nodes [] n × GoesOn nodes n word = parts nodes word [] to reached in
    subst (λ n. GoesOn nodes n word) more.1 more.2

-- each node is reached by one word
pub one_word : (nodes : List (List Edge)) → IsTree nodes → (word other : List Token) (to : ℕ) → Reached nodes word to → Reached nodes other to → word ≡ other
one_word nodes tree [] [] to h k = refl
one_word nodes tree [] (token ∷ other) to h k = absurd (omega (arith, h, tree.later k.0 to token k.2))
one_word nodes tree (token ∷ word) [] to h k = absurd (omega (arith, k, tree.later h.0 to token h.2))
one_word nodes tree (token ∷ word) (last ∷ other) to h k =
    let both : (h.0 ≡ k.0) × (token ≡ last) = tree.one h.0 k.0 to token last h.2 k.2 in
    let rest : word ≡ other = one_word nodes tree word other h.0 h.1 (subst (Reached nodes other) (sym both.0) k.1) in
    let first : token ≡ last = both.1 in
    λ i. first i ∷ rest i
