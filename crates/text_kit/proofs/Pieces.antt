-- The piece at the front of a text, and what the cutter tells of it.
use Rattle.std.proofs.Common.{◌≡◌, ℕ, ◌+◌, ◌≤◌, Bool, IsTrue, List, [], ◌∷◌, ◌++◌, length, refl, sym, ap, subst, inl, inr, arith, eqb, leb, codes}
use Rattle.std.proofs.lemmas.Bool.{cases_Bool, and_parts, and_from, or_cases, eqb-true, eqb-false, leb-true, le-leb}
use Rattle.std.specs.List.{list_all, list_any, prefix_len}
use Rattle.std.specs.Char.{is_ascii_alphabetic}
use Rattle.text_kit.specs.declared.cut.Kind.{Kind}
use Rattle.text_kit.specs.declared.cut.Kind.TheVariants as kind
use Rattle.text_kit.specs.declared.cut.Front.{Front}
use Rattle.text_kit.specs.declared.cut.Front.TheVariants as front
use Rattle.text_kit.specs.Tokens.{is_blank, is_inside_line, is_word_byte, is_short_mark, IsMark, short, arrow, implies, StopsAt, IsGap, blank, comment, Stands, word, mark, BeginsNothing}
use Rattle.text_kit.specs.inner.Front.{front_of, front_at, word_of, equal_mark, dash_mark}

-- a run up to where it stops has its length
pub prefix_len_run : (p : ℕ → Bool) (xs ys : List ℕ) → IsTrue (list_all p xs) → StopsAt p ys → prefix_len p (xs ++ ys) ≡ length xs
prefix_len_run p [] [] t s = refl
prefix_len_run p [] (y ∷ ys) t s = rw s refl
prefix_len_run p (x ∷ xs) ys t s =
    let parts = and_parts (p x) (list_all p xs) t in
    rw (parts.0) (omega (arith, prefix_len_run p xs ys parts.1 s))

-- the first bytes that pass, and the rest
pub record Run (p : ℕ → Bool) (xs : List ℕ) : Type 0 where
  pub run : List ℕ
  pub rest : List ℕ
  pub split : xs ≡ run ++ rest
  pub passes : IsTrue (list_all p run)
  pub stops : StopsAt p rest
  pub counted : prefix_len p xs ≡ length run

pub run_of : (p : ℕ → Bool) (xs : List ℕ) → Run p xs
run_of p [] = record { run = []; rest = []; split = refl; passes = refl; stops = tt; counted = refl }
run_of p (x ∷ xs) = elim (cases_Bool (p x)) [
  | inl t ↦ (let r = run_of p xs in record {
    run = x ∷ r.run;
    rest = r.rest;
    split = ap (λ ys. x ∷ ys) r.split;
    passes = and_from (p x) (list_all p r.run) t r.passes;
    stops = r.stops;
    counted = rw t (omega (arith, r.counted));
  })
  | inr f ↦ record { run = []; rest = x ∷ xs; split = refl; passes = refl; stops = f; counted = rw f refl }
]

-- a fact for each byte of a list
abbrev pub Each : (ℕ → Type 0) → List ℕ → Type 0
Each P [] = Unit {0}
Each P (x ∷ xs) = P x × Each P xs

pub each_of : (P : ℕ → Type 0) (b : ℕ) (xs : List ℕ) → Each P xs → IsTrue (list_any (λ c. eqb c b) xs) → P b
each_of P b [] e t = cc
each_of P b (x ∷ xs) e t = elim (or_cases (eqb x b) (list_any (λ c. eqb c b) xs) t) [
  | inl same ↦ subst P (eqb-true x b same) e.0
  | inr more ↦ each_of P b xs e.1 more
]

pub heads : {x y : ℕ} {xs ys : List ℕ} → x ∷ xs ≡ y ∷ ys → x ≡ y
heads e = cc

pub tails : {x y : ℕ} {xs ys : List ℕ} → x ∷ xs ≡ y ∷ ys → xs ≡ ys
tails e = cc

-- the piece of this length, with the rest behind it
pub record Split (m : ℕ) (text : List ℕ) (S : List ℕ → List ℕ → Type 0) : Type 0 where
  pub piece : List ℕ
  pub rest : List ℕ
  pub split : text ≡ piece ++ rest
  pub counted : length piece ≡ m
  pub stands : S piece rest

abbrev pub Told : List ℕ → Front → Type 0
Told text (front.Gap m) = Split m text IsGap
Told text (front.Token k m) = Split m text (Stands k)
Told text front.Nothing = Unit {0}

module _ (b : ℕ) (rest : List ℕ) where
  -- a mark of one byte is the longest where neither of the others stands
  only_short : IsTrue (is_short_mark b) → ((behind : List ℕ) → codes "->" ++ behind ≡ b ∷ rest → ⊥) →
      ((behind : List ℕ) → codes "==>" ++ behind ≡ b ∷ rest → ⊥) → Told (b ∷ rest) (front.Token kind.Mark 1)
  only_short t no_arrow no_implies = record { piece = b ∷ []; rest = rest; split = refl; counted = refl; stands = mark (short t) longest }
    where
      longest : (other behind : List ℕ) → IsMark other → other ++ behind ≡ b ∷ rest → length other ≤ 1
      longest other behind (short s) e = omega arith
      longest other behind arrow e = absurd (no_arrow behind e)
      longest other behind implies e = absurd (no_implies behind e)

  told_word : IsTrue (is_ascii_alphabetic b) → Told (b ∷ rest) (word_of (1 + prefix_len is_word_byte rest))
  told_word t = let r = run_of is_word_byte rest in elim (cases_Bool (leb (1 + prefix_len is_word_byte rest) 64)) [
    | inl small ↦ rw small (record {
      piece = b ∷ r.run;
      rest = r.rest;
      split = ap (λ ys. b ∷ ys) r.split;
      counted = omega (arith, r.counted);
      stands = word {b = b} {bs = r.run} {rest = r.rest} t r.passes r.stops (omega (arith, r.counted, leb-true (1 + prefix_len is_word_byte rest) 64 small));
    })
    | inr large ↦ rw large tt
  ]

  told_comment : Told (35 ∷ rest) (front.Gap (1 + prefix_len is_inside_line rest))
  told_comment = let r = run_of is_inside_line rest in record {
    piece = 35 ∷ r.run;
    rest = r.rest;
    split = ap (λ ys. 35 ∷ ys) r.split;
    counted = omega (arith, r.counted);
    stands = comment r.passes r.stops;
  }

three : (rest other behind : List ℕ) → IsMark other → other ++ behind ≡ codes "==>" ++ rest → length other ≤ 3
three rest other behind (short s) e = omega arith
three rest other behind arrow e = omega arith
three rest other behind implies e = omega arith

two : (rest other behind : List ℕ) → IsMark other → other ++ behind ≡ codes "->" ++ rest → length other ≤ 2
two rest other behind (short s) e = omega arith
two rest other behind arrow e = omega arith
two rest other behind implies e = absurd (eqb-false 61 45 refl (heads e))

told_equal_at : (x y : ℕ) (rest : List ℕ) → Told (61 ∷ x ∷ y ∷ rest) (equal_mark (x ∷ y ∷ rest))
told_equal_at x y rest = elim (cases_Bool (eqb x 61)) [
  | inl e ↦ rw e (elim (cases_Bool (eqb y 62)) [
    | inl f ↦ rw f (subst (λ z. Told (61 ∷ z ∷ y ∷ rest) (front.Token kind.Mark 3)) (sym (eqb-true x 61 e))
        (subst (λ z. Told (61 ∷ 61 ∷ z ∷ rest) (front.Token kind.Mark 3)) (sym (eqb-true y 62 f))
        (record { piece = codes "==>"; rest = rest; split = refl; counted = refl; stands = mark implies (three rest) })))
    | inr f ↦ rw f (only_short 61 (x ∷ y ∷ rest) refl (no_arrow (x ∷ y ∷ rest))
        (λ behind h. eqb-false y 62 f (sym (heads (tails (tails h))))))
  ])
  | inr e ↦ rw e (only_short 61 (x ∷ y ∷ rest) refl (no_arrow (x ∷ y ∷ rest)) (λ behind h. eqb-false x 61 e (sym (heads (tails h)))))
]
  where
    no_arrow : (rest behind : List ℕ) → codes "->" ++ behind ≡ 61 ∷ rest → ⊥
    no_arrow rest behind h = eqb-false 45 61 refl (heads h)

told_equal : (rest : List ℕ) → Told (61 ∷ rest) (equal_mark rest)
told_equal [] = only_short 61 [] refl (λ behind h. eqb-false 45 61 refl (heads h)) (λ behind h. let d : 61 ∷ 62 ∷ behind ≡ [] = tails h in cc)
told_equal (x ∷ []) = only_short 61 (x ∷ []) refl (λ behind h. eqb-false 45 61 refl (heads h))
    (λ behind h. let d : 62 ∷ behind ≡ [] = tails (tails h) in cc)
told_equal (x ∷ y ∷ rest) = told_equal_at x y rest

told_dash : (rest : List ℕ) → Told (45 ∷ rest) (dash_mark rest)
told_dash [] = tt
told_dash (x ∷ rest) = elim (cases_Bool (eqb x 62)) [
  | inl e ↦ rw e (let same : x ≡ 62 = eqb-true x 62 e in
      record { piece = codes "->"; rest = rest; split = ap (λ y. 45 ∷ y ∷ rest) same; counted = refl; stands = mark arrow (two rest) })
  | inr e ↦ rw e tt
]

-- what the cutter tells is so
pub told : (text : List ℕ) → Told text (front_of text)
told [] = tt
told (b ∷ rest) = elim (cases_Bool (is_ascii_alphabetic b)) [
  | inl e ↦ rw e (told_word b rest e)
  | inr e ↦ rw e (elim (cases_Bool (is_blank b)) [
    | inl f ↦ rw f (record { piece = b ∷ []; rest = rest; split = refl; counted = refl; stands = blank f })
    | inr f ↦ rw f (elim (cases_Bool (eqb b 35)) [
      | inl g ↦ rw g (subst (λ c. Told (c ∷ rest) (front.Gap (1 + prefix_len is_inside_line rest))) (sym (eqb-true b 35 g)) (told_comment 35 rest))
      | inr g ↦ rw g (elim (cases_Bool (eqb b 61)) [
        | inl h ↦ rw h (subst (λ c. Told (c ∷ rest) (equal_mark rest)) (sym (eqb-true b 61 h)) (told_equal rest))
        | inr h ↦ rw h (elim (cases_Bool (eqb b 45)) [
          | inl i ↦ rw i (subst (λ c. Told (c ∷ rest) (dash_mark rest)) (sym (eqb-true b 45 i)) (told_dash rest))
          | inr i ↦ rw i (elim (cases_Bool (is_short_mark b)) [
            | inl j ↦ rw j (only_short b rest j (λ behind e. eqb-false b 45 i (sym (heads e))) (λ behind e. eqb-false b 61 h (sym (heads e))))
            | inr j ↦ rw j tt
          ])
        ])
      ])
    ])
  ])
]

-- a piece that is passed over is told
pub tells_gap : (piece rest : List ℕ) → IsGap piece rest → front_of (piece ++ rest) ≡ front.Gap (length piece)
tells_gap piece rest (blank {b} t) = each_of (λ c. front_at c rest ≡ front.Gap 1) b (codes " \t\r\n") (refl, (refl, (refl, (refl, tt)))) t
tells_gap piece rest (comment {said} t s) = ap (λ n. front.Gap n) (omega (arith, prefix_len_run is_inside_line said rest t s))

-- a token is told
pub tells_word : (b : ℕ) (bs rest : List ℕ) → IsTrue (is_ascii_alphabetic b) → IsTrue (list_all is_word_byte bs) → StopsAt is_word_byte rest →
    length (b ∷ bs) ≤ 64 → front_at b (bs ++ rest) ≡ front.Token kind.Word (length (b ∷ bs))
tells_word b bs rest t u s small = rw t (rw (prefix_len_run is_word_byte bs rest u s) (let le : 1 + length bs ≤ 64 = omega arith in
    rw (le-leb (1 + length bs) 64 le) (ap (λ n. front.Token kind.Word n) (omega arith))))

pub tells_equal : (rest : List ℕ) → ((behind : List ℕ) → codes "==>" ++ behind ≡ 61 ∷ rest → ⊥) → equal_mark rest ≡ front.Token kind.Mark 1
tells_equal [] none = refl
tells_equal (x ∷ []) none = refl
tells_equal (x ∷ y ∷ rest) none = elim (cases_Bool (eqb x 61)) [
  | inl e ↦ rw e (elim (cases_Bool (eqb y 62)) [
    | inl f ↦ absurd (none rest (same x y rest (eqb-true x 61 e) (eqb-true y 62 f)))
    | inr f ↦ rw f refl
  ])
  | inr e ↦ rw e refl
]
  where
    same : (x y : ℕ) (rest : List ℕ) → x ≡ 61 → y ≡ 62 → codes "==>" ++ rest ≡ 61 ∷ x ∷ y ∷ rest
    same x y rest d h = rw (d, h) refl

abbrev TellsShort : List ℕ → ℕ → Type 0
TellsShort rest c = ((behind : List ℕ) → codes "==>" ++ behind ≡ c ∷ rest → ⊥) → front_at c rest ≡ front.Token kind.Mark 1

pub tells : (k : Kind) (piece rest : List ℕ) → Stands k piece rest → front_of (piece ++ rest) ≡ front.Token k (length piece)
tells k piece rest (word {b} {bs} t u s small) = tells_word b bs rest t u s small
tells k piece rest (mark (short {b} t) longest) = each_of (TellsShort rest) b (codes "():;.=~&|!?\\@") ((λ _. refl), ((λ _. refl), ((λ _. refl), ((λ _. refl), ((λ _. refl), (tells_equal rest, ((λ _. refl), ((λ _. refl), ((λ _. refl), ((λ _. refl), ((λ _. refl), ((λ _. refl), ((λ _. refl), tt))))))))))))) t (λ behind e. absurd (omega (arith, longest (codes "==>") behind implies e)))
tells k piece rest (mark arrow longest) = refl
tells k piece rest (mark implies longest) = refl

-- where nothing is told, nothing stands
pub begins_nothing : (text : List ℕ) → front_of text ≡ front.Nothing → BeginsNothing text
begins_nothing text e = record {
  no_gap = λ piece rest same g. let h = tells_gap piece rest g in let i : front_of text ≡ front_of (piece ++ rest) = ap front_of same in cc;
  no_token = λ k piece rest same s. let h = tells k piece rest s in let i : front_of text ≡ front_of (piece ++ rest) = ap front_of same in cc;
}
