use Rattle.std.proofs.Common.{◌≡◌, ◌∷◌, [], ◌++◌, ◌+◌, ◌∙◌, None, sym, ap, cond, length, map, arith}
use Rattle.std.specs.Prelude.{Some}
use Rattle.std.specs.Str.{bytes_eq}
use Rattle.std.specs.BTreeMap.{get_by}
use Rattle.std.specs.Ordering.{nat_cmp}
use Rattle.std.specs.Cmp.Lexicographic.{slice_cmp}
use Rattle.std.proofs.lemmas.List.{length-append, length-map, map-append}
use Rattle.theory_terms.specs.Words.{place}
use Rattle.theory_terms.proofs.KeyPlaces.{found_after, name_added}
use Rattle.theory_terms.proofs.names.Names.add.Goals as goal

pub invariant_of-self-in-Ok-insert : goal.invariant_of-self-in-Ok-insert
invariant_of-self-in-Ok-insert c =
    let was = c.self.inside.list in
    let names = map (λ k. k.now) was in
    let key = c.args.name.now in
    let now : c.push.new.self ≡ was ++ c.args.name ∷ [] = c.in_ok-push.ensures.ok in
    let more : length c.push.new.self ≡ length was + 1 = ap length now ∙ length-append was (c.args.name ∷ []) in
    let absent : place key names ≡ None = ap (place key) c.self.view_is ∙ c.requires in (
      omega arith,
      λ name. found_after c.self.inside.places c.insert.new.self c.in-Ok.key.items (Some c.len-place.result) c.in-Ok-insert.ensures.updates name ∙
          ap (λ k. cond (bytes_eq k name) (Some c.len-place.result) (get_by (λ k. slice_cmp nat_cmp name k.items) c.self.inside.places)) c.in-Ok.ensures.items ∙
          ap (cond (bytes_eq key name) (Some c.len-place.result)) (c.self.invariant.1 name) ∙
          ap (λ n. cond (bytes_eq key name) (Some n) (place name names)) (c.len-place.ensures ∙ sym (length-map was (λ k. k.now))) ∙
          name_added key name names absent ∙ ap (place name) (sym (map-append (λ k. k.now) was (c.args.name ∷ []))) ∙ sym (ap (λ l. place name (map (λ k. k.now) l)) now),
    )
