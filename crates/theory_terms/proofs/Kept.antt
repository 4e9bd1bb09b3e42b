-- What stays numbered in a table that grows.
use Rattle.std.proofs.Common.{◌≡◌, ◌<◌, ℕ, List, [], ◌∷◌, ◌++◌, map, length, get_or, refl, sym, ap, subst, ◌∙◌, rules, arith}
use Rattle.std.specs.Prelude.{Some, None, slice_get, Result, Ok, Err, OnOk, OnErr}
use Rattle.std.specs.Option.{option_map}
use Rattle.std.proofs.lemmas.Option.{slice_get-map, slice_get_within, slice_get-get_or}
use Rattle.text_kit.specs.declared.NoMemory.{NoMemory}
use Rattle.std.specs.Borrow.{Bor}
use Rattle.std.proofs.lemmas.List.{map-append}
use Rattle.hol_terms.specs.declared.ty.Ty.{Ty}
use Rattle.theory_terms.specs.declared.decl.Decl.{Decl}
use Rattle.theory_terms.specs.declared.numbered.Numbered.{Numbered}
use Rattle.theory_terms.specs.declared.scope.Scope.{Scope}
use Rattle.theory_terms.specs.declared.scope.Scope.TheVariants as variants
use Rattle.theory_terms.specs.declared.scope.Scope.TheFolds.{the_lemmas}
use Rattle.theory_terms.specs.Numbers.{type_at, IsNumbered, AreNumbered, Keeps, Noted, AreNoted}
use Rattle.theory_terms.specs.inner.Scopes.{numbered_types}

pub keeps_all : (old new : List Ty) → Keeps old new → (ts : List Numbered) → AreNumbered old ts → AreNumbered new ts
keeps_all old new keeps [] h = tt
keeps_all old new keeps (t ∷ ts) h = (keeps t.number t.ty h.0, keeps_all old new keeps ts h.1)

noted_from : (old new : List Ty) → Keeps old new → (ds : List Decl) (ns : List ℕ) → map (λ d. Some d.ty) ds ≡ map (type_at old) ns → map (λ d. Some d.ty) ds ≡ map (type_at new) ns
noted_from old new keeps [] [] h = refl
noted_from old new keeps [] (n ∷ ns) h = cc
noted_from old new keeps (d ∷ ds) [] h = cc
noted_from old new keeps (d ∷ ds) (n ∷ ns) h =
    let first : Some d.ty ≡ type_at old n = cc in
    let rest : map (λ d. Some d.ty) ds ≡ map (type_at old) ns = cc in
    let one : Some d.ty ≡ type_at new n = sym (keeps n d.ty (sym first)) in
    let two = noted_from old new keeps ds ns rest in
    λ i. one i ∷ two i

pub keeps_noted : (old new : List Ty) (noted : Noted) → Keeps old new → AreNoted old noted → AreNoted new noted
keeps_noted old new noted keeps h = noted_from old new keeps noted.declared.consts noted.numbers h

-- a constant more
pub noted_more : (table : List Ty) (ds : List Decl) (ns : List ℕ) (d : Decl) (n : ℕ) → map (λ d. Some d.ty) ds ≡ map (type_at table) ns → type_at table n ≡ Some d.ty →
    map (λ d. Some d.ty) (ds ++ d ∷ []) ≡ map (type_at table) (ns ++ n ∷ [])
noted_more table ds ns d n h e = map-append (λ d. Some d.ty) ds (d ∷ []) ∙ (λ i. h i ++ e' i ∷ []) ∙ sym (map-append (type_at table) ns (n ∷ []))
  where
    e' : Some d.ty ≡ type_at table n
    e' = sym e

-- the variables behind the innermost
pub inner_numbered : (table : List Ty) (scope : Scope) (name : Bor (List ℕ)) (a : Bor Numbered) (rest : Bor Scope) → scope ≡ variants.Under name a rest →
    AreNumbered table (numbered_types scope) → IsNumbered table a.now × AreNumbered table (numbered_types rest.now)
inner_numbered table scope name a rest e h =
    let list : numbered_types (variants.Under name a rest) ≡ a.now ∷ numbered_types rest.now = search (rules, the_lemmas) in
    subst (AreNumbered table) (ap numbered_types e ∙ list) h

-- the number at a constant's place is its type's
pub noted_at : (table : List Ty) (ds : List Decl) (ns : List ℕ) (i : ℕ) (d : Decl) (n : ℕ) → map (λ d. Some d.ty) ds ≡ map (type_at table) ns →
    slice_get ds i ≡ Some d → slice_get ns i ≡ Some n → type_at table n ≡ Some d.ty
noted_at table ds ns i d n h e f =
    let both : Some (Some d.ty) ≡ Some (type_at table n) =
    sym (ap (option_map (λ d. Some d.ty)) e) ∙ sym (slice_get-map (λ d. Some d.ty) ds i) ∙ ap (λ l. slice_get l i) h ∙ slice_get-map (type_at table) ns i ∙ ap (option_map (type_at table)) f in
    cc

-- each constant has a number
pub number_held : (ds : List Decl) (ns : List ℕ) (i : ℕ) (d : Decl) → length ns ≡ length ds → slice_get ds i ≡ Some d → slice_get ns i ≡ None → ⊥
number_held ds ns i d e h g =
    let within : i < length ds = slice_get_within ds i d h in
    let inside : i < length ns = omega arith in
    let held : Some (get_or ns i 0) ≡ None = sym (slice_get-get_or ns i 0 inside) ∙ g in cc

-- what a call that declares a constant leaves
pub noted_after : (table : List Ty) (old new : Noted) (d : Decl) (n : ℕ) (r : Result (Unit {0}) NoMemory) → OnOk r (new.declared.consts ≡ old.declared.consts ++ d ∷ []) →
    OnOk r (new.numbers ≡ old.numbers ++ n ∷ []) → OnErr r (new ≡ old) → AreNoted table old → type_at table n ≡ Some d.ty → AreNoted table new
noted_after table old new d n (Ok u) consts numbers same h e =
    ap (map (λ d. Some d.ty)) consts ∙ noted_more table old.declared.consts old.numbers d n h e ∙ sym (ap (map (type_at table)) numbers)
noted_after table old new d n (Err x) consts numbers same h e = subst (AreNoted table) (sym same) h
