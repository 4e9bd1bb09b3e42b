use Rattle.std.proofs.Common.{◌≡◌, ◌++◌, ◌∷◌, [], ℕ, List, length, arith, sym, ap, ◌∙◌, subst}
use Rattle.std.specs.Prelude.{Some, Contains}
use Rattle.std.specs.BTreeMap.{UpdatesBy}
use Rattle.std.specs.Ordering.{nat_cmp}
use Rattle.std.specs.Cmp.Lexicographic.{slice_cmp}
use Rattle.fo_index.specs.inner.Numbered.{list_of}
use Rattle.fo_index.proofs.Numbering.{named, opened-known, opened-grows, opened-holds, itself}
use Rattle.fo_index.proofs.shelves.Shelves.open.Goals as goal

pub invariant_of-self-in-Ok-insert : goal.invariant_of-self-in-Ok-insert
invariant_of-self-in-Ok-insert c =
    let lists = c.args.self.now.lists in
    let many : c.len-number.result ≡ length lists.items = omega (arith, c.len-number.ensures, lists.ok.0) in
    let U : List ℕ → ℕ → Type 0 = λ l k. UpdatesBy (λ x y. slice_cmp nat_cmp x.items y.items) (λ x. slice_cmp nat_cmp l x.items) c.args.self.now.numbers c.insert.new.self (Some k) in
    let V : List ℕ → Type 0 = λ l. U l c.len-number.result in
    let W : ℕ → Type 0 = λ k. U c.args.key.now k in
    let updates = subst W many (subst V c.in-Ok.ensures.items c.in-Ok-insert.ensures.updates) in
    let items = c.push_reserved.ensures.items ∙ ap (λ l. l ++ c.in_ok-list.list ∷ []) c.reserve.ensures.items in
    record {
      known = λ q k is.
          let lt =
          opened-known c.args.self.now.numbers c.insert.new.self lists.items c.args.key.now c.in_ok-list.list c.requires (λ p j at. (let below = c.args.self.now.known p j at in omega (arith, below, lists.ok.0))) updates q k is
          in
          omega (arith, lt, ap length items, c.push_reserved.new.self.ok.0);
    }

pub returns-in-Ok-insert-clause-grows : goal.returns-in-Ok-insert-clause-grows
returns-in-Ok-insert-clause-grows c =
    let lists = c.args.self.now.lists in
    let many : c.len-number.result ≡ length lists.items = omega (arith, c.len-number.ensures, lists.ok.0) in
    let U : List ℕ → ℕ → Type 0 = λ l k. UpdatesBy (λ x y. slice_cmp nat_cmp x.items y.items) (λ x. slice_cmp nat_cmp l x.items) c.args.self.now.numbers c.insert.new.self (Some k) in
    let V : List ℕ → Type 0 = λ l. U l c.len-number.result in
    let W : ℕ → Type 0 = λ k. U c.args.key.now k in
    let updates = subst W many (subst V c.in-Ok.ensures.items c.in-Ok-insert.ensures.updates) in
    let items = c.push_reserved.ensures.items ∙ ap (λ l. l ++ c.in_ok-list.list ∷ []) c.reserve.ensures.items in
    λ q k h.
    let P : List (List ℕ) → Type 0 = λ l. Contains (list_of l (named c.insert.new.self q)) k in
    subst P (sym items)
    (opened-grows c.args.self.now.numbers c.insert.new.self lists.items c.args.key.now c.in_ok-list.list c.requires (λ p j at. (let below = c.args.self.now.known p j at in omega (arith, below, lists.ok.0))) updates q k h)

pub returns-in-Ok-insert-clause-added : goal.returns-in-Ok-insert-clause-added
returns-in-Ok-insert-clause-added c =
    let lists = c.args.self.now.lists in
    let many : c.len-number.result ≡ length lists.items = omega (arith, c.len-number.ensures, lists.ok.0) in
    let U : List ℕ → ℕ → Type 0 = λ l k. UpdatesBy (λ x y. slice_cmp nat_cmp x.items y.items) (λ x. slice_cmp nat_cmp l x.items) c.args.self.now.numbers c.insert.new.self (Some k) in
    let V : List ℕ → Type 0 = λ l. U l c.len-number.result in
    let W : ℕ → Type 0 = λ k. U c.args.key.now k in
    let updates = subst W many (subst V c.in-Ok.ensures.items c.in-Ok-insert.ensures.updates) in
    let items = c.push_reserved.ensures.items ∙ ap (λ l. l ++ c.in_ok-list.list ∷ []) c.reserve.ensures.items in
    let is = opened-holds c.args.self.now.numbers c.insert.new.self lists.items c.args.key.now c.in_ok-list.list c.requires (λ p j at. (let below = c.args.self.now.known p j at in omega (arith, below, lists.ok.0))) updates in
    let P : List ℕ → Type 0 = λ l. Contains l c.args.place in
    subst P (sym (ap (λ l. list_of l (named c.insert.new.self c.args.key.now)) items ∙ is ∙ c.in_ok-list.ensures)) (itself c.args.place)
