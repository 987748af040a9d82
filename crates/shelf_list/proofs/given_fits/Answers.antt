use Rattle.shelf_list.proofs.given_fits.Goals as goal

pub returns-in-Some : goal.returns-in-Some
returns-in-Some c = λ τ x o g w e. let there = rw c.in-Some.is at w in rw there.is (c.value_fits.ensures τ there.value o g there.stands e)
