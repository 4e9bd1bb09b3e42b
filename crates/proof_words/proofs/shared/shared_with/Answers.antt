use Rattle.std.proofs.Common.{◌≡◌, map, ap, subst, arith, length, ◌≤◌}
use Rattle.std.proofs.lemmas.List.{drop_all}
use Rattle.proof_words.specs.Sharing.{Shares, IsOneOf}
use Rattle.proof_words.specs.inner.Steps.{most_shared}
use Rattle.proof_words.proofs.Fronts.{shares}
use Rattle.proof_words.proofs.shared.shared_with.Goals as goal

pub returns : goal.returns
returns c =
    let w = c.args.word.now in
    let words = c.args.words.now in
    let past : length words ≤ c.loop-other.other-index = omega (arith, c.loop-other-test.false) in
    let none = ap (λ vs. most_shared w (map (λ v. v.now) vs)) (drop_all c.loop-other.other-index words past) in
    let all = c.loop-other.invariant in
    let is : most_shared w (map (λ v. v.now) words) ≡ c.loop-other.most = omega arith in
    subst (λ n. Shares (IsOneOf (map (λ v. v.now) words)) w n) is (shares w (map (λ v. v.now) words) c.requires)
