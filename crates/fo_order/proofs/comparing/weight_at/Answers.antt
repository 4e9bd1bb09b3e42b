use Rattle.std.proofs.Common.{◌≡◌, ap, arith}
use Rattle.fo_terms.specs.declared.term.FoTerm.{FoTerm}
use Rattle.fo_terms.specs.Substitution.{var}
use Rattle.fo_terms.specs.Weight.{size_of}
use Rattle.fo_order.proofs.Weighing.{split_size, item_is}
use Rattle.fo_order.proofs.comparing.weight_at.Goals as goal

pub overflow_sub-result-2 : goal.overflow_sub-result-2
overflow_sub-result-2 c =
    let split = split_size c.args.terms.now c.args.i (var 0) c.requires.place in
    let whole = c.requires.whole in
    omega arith

pub overflow_sub-result-3 : goal.overflow_sub-result-3
overflow_sub-result-3 c =
    let split = split_size c.args.terms.now c.args.i (var 0) c.requires.place in
    let whole = c.requires.whole in
    omega arith

pub returns : goal.returns
returns c = λ t is.
    let split = split_size c.args.terms.now c.args.i t c.requires.place in
    let whole = c.requires.whole in
    let item = ap size_of (item_is c.args.terms.now c.args.i t is) in
    omega arith
