use Rattle.std.proofs.Common.{◌≡◌, ◌+◌, ◌-◌, ◌/◌, ◌%◌, ◌≤◌, ◌∷◌, ◌++◌, [], sym, ap, ◌∙◌, length, take, get_or, decimal, arith}
use Rattle.std.proofs.lemmas.List.{take_more, take_all}
use Rattle.std.proofs.lemmas.Fmt.{decimal_digit, decimal_step}
use Rattle.proof_words.proofs.Digits.{begins_digits}
use Rattle.proof_words.proofs.number.positive.Goals as goal

pub digits-init : goal.digits-init
digits-init c =
    let is = c.requires.front.1 in
    let count = ap (λ xs. length xs) is in
    let digit = c.requires.digit in
    let more = c.requires.positive in
    let byte : 48 + (c.args.first - 48) ≡ c.args.first = omega arith in (
      omega arith,
      omega arith,
      omega arith,
      omega arith,
      ap (λ xs. take 1 xs) is ∙ ap (λ b. b ∷ []) (sym byte) ∙ sym (decimal_digit (c.args.first - 48) (omega arith)),
    )

pub returns-in-None : goal.returns-in-None
returns-in-None c =
    let w = c.args.word.now in
    let i = c.digits.invariant in
    begins_digits w c.digits.at c.digits.value (get_or w c.digits.at 0) i.0 c.digits-test.true i.3 i.4 (take_more w c.digits.at 0 c.digits-test.true)
    (λ n low ten front byte. let far = c.in-None.ensures (omega arith) (omega arith) in omega arith)

pub digits-preserved : goal.digits-preserved
digits-preserved c =
    let w = c.args.word.now in
    let i = c.digits.invariant in
    let some = i.2 in
    let told = c.in-Some.ensures in
    let low = told.0.0 in
    let high = told.0.1 in
    let is = told.1 in
    let fits = told.2 in
    let lt = c.digits-test.true in
    let front : c.digits.value ≡ c.in-Some.more / 10 = omega arith in
    let byte : get_or w c.digits.at 0 ≡ 48 + c.in-Some.more % 10 = omega arith in (
      omega arith,
      omega arith,
      omega arith,
      fits,
      take_more w c.digits.at 0 lt ∙ ap (λ ds. ds ++ get_or w c.digits.at 0 ∷ []) (i.4 ∙ ap (λ n. decimal n) front)
          ∙ ap (λ b. decimal (c.in-Some.more / 10) ++ b ∷ []) byte ∙ sym (decimal_step c.in-Some.more (omega arith) fits),
    )

pub returns : goal.returns
returns c =
    let past : length c.args.word.now ≤ c.digits.at = omega (arith, c.digits-test.false) in
    (c.digits.invariant.3, sym (take_all c.digits.at c.args.word.now past) ∙ c.digits.invariant.4)
