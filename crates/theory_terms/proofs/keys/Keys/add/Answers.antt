use Rattle.std.proofs.Common.{◌≡◌, ◌∷◌, [], ◌++◌, ◌+◌, ◌∙◌, None, sym, ap, cond, length, arith}
use Rattle.std.specs.Prelude.{Some, position}
use Rattle.std.specs.Ordering.{is_eq}
use Rattle.std.proofs.lemmas.List.{length-append}
use Rattle.theory_terms.proofs.KeyPlaces.{place_added}
use Rattle.theory_terms.proofs.keys.Keys.add.Goals as goal

pub invariant_of-self-in-Ok : goal.invariant_of-self-in-Ok
invariant_of-self-in-Ok g c =
    let was = c.self.inside.list in
    let now : c.push.new.self ≡ was ++ c.args.key ∷ [] = c.in_ok-push.ensures.ok in
    let more : length c.push.new.self ≡ length was + 1 = ap length now ∙ length-append was (c.args.key ∷ []) in
    let absent : position (λ k. is_eq (g.K.Ord.cmp c.args.key k)) was ≡ None = ap (position (λ k. is_eq (g.K.Ord.cmp c.args.key k))) c.self.view_is ∙ c.requires in (
      omega arith,
      λ q. c.in-Ok.ensures.updates.0 q ∙ ap (cond (is_eq (g.K.Ord.cmp c.args.key q)) (Some _)) (c.self.invariant.1 q) ∙
          ap (λ n. cond (is_eq (g.K.Ord.cmp c.args.key q)) (Some n) (position (λ k. is_eq (g.K.Ord.cmp q k)) was)) c.len-place.ensures ∙
          place_added g.K.Ord.cmp g.met.K.Ord.total c.args.key q was absent ∙ sym (ap (position (λ k. is_eq (g.K.Ord.cmp q k))) now),
    )
