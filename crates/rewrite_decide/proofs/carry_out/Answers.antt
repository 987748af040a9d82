use Rattle.rewrite_decide.proofs.Carried.{carry_keep, carry_share, carry_assign, carry_replace, carry_values}
use Rattle.rewrite_decide.proofs.carry_out.Goals as goal

pub returns-in-Keep-clause-carried_out : goal.returns-in-Keep-clause-carried_out
returns-in-Keep-clause-carried_out c = λ next S stay x g rep few room z. carry_keep c.args.code g rep c.in-Keep.is z

pub returns-in-Share-clause-carried_out : goal.returns-in-Share-clause-carried_out
returns-in-Share-clause-carried_out c = λ next S stay x g rep few room z. carry_share c.args.code g rep few c.in-Share.is c.share.ensures

pub returns-in-Assign-clause-carried_out : goal.returns-in-Assign-clause-carried_out
returns-in-Assign-clause-carried_out c = λ next S stay x g rep few room z. carry_assign c.args.code g rep c.in-Assign.is

pub returns-in-Replace-clause-carried_out : goal.returns-in-Replace-clause-carried_out
returns-in-Replace-clause-carried_out c = λ next S stay x g rep few room z. carry_replace c.args.code g rep few room c.in-Replace.is c.replace-to.ensures.replaced

pub returns-in-Values-clause-carried_out : goal.returns-in-Values-clause-carried_out
returns-in-Values-clause-carried_out c = λ next S stay x g rep few room z. carry_values c.args.code g rep few room c.in-Values.is c.build_values.ensures.values_built
