use Rattle.std.proofs.Common.{◌<◌, ℕ, List, length, arith, sym, subst, ◌∙◌}
use Rattle.std.specs.Prelude.{Contains}
use Rattle.fo_index.proofs.Numbering.{named, held, pushed-grows, pushed-is, push-grows, push-holds}
use Rattle.fo_index.proofs.shelves.Shelves.add.Goals as goal

pub index_mut-requires : goal.index_mut-requires
index_mut-requires c = c.args.self.now.known c.args.key.now c.in-Some.number (sym (c.in-Some.ensures ∙ c.get.ensures.value))

pub returns-in-Some-clause-grows : goal.returns-in-Some-clause-grows
returns-in-Some-clause-grows c =
    let lists = c.args.self.now.lists in
    let below = c.args.self.now.known c.args.key.now c.in-Some.number (sym (c.in-Some.ensures ∙ c.get.ensures.value)) in
    let within : c.in-Some.number < length lists.items = omega (arith, below, lists.ok.0) in
    let here = held lists.items c.in-Some.number c.index_mut.result.now within c.index_mut.ensures.value in
    λ key k h.
    pushed-grows lists.items c.in-Some.number c.push.new.self (named c.args.self.now.numbers key) k within
    (λ j has. push-grows c.push.result c.index_mut.result.now c.push.new.self c.args.place c.push.ensures.ok c.push.ensures.err j (let P : List ℕ → Type 0 = λ l. Contains l j in subst P here has))
    h

pub returns-in-Some-clause-added : goal.returns-in-Some-clause-added
returns-in-Some-clause-added c =
    let lists = c.args.self.now.lists in
    let is = sym (c.in-Some.ensures ∙ c.get.ensures.value) in
    let below = c.args.self.now.known c.args.key.now c.in-Some.number is in
    let within : c.in-Some.number < length lists.items = omega (arith, below, lists.ok.0) in
    push-holds c.push.result c.index_mut.result.now c.push.new.self _ c.args.place (pushed-is lists.items c.in-Some.number c.push.new.self (named c.args.self.now.numbers c.args.key.now) is within) c.push.ensures.ok
