use Rattle.text.proofs.+put_decimal.Given as goal

-- proposed from what the function passes where it calls itself
abbrev pub decreases-put_decimal : goal.decreases-put_decimal
decreases-put_decimal l = l.x
