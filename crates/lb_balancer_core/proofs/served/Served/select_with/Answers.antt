-- The walk is over the newest membership, and each backend is judged in it.
use Rattle.std.proofs.Common.{◌∷◌, ◌∙◌, List, refl, subst}
use Rattle.std.specs.Arc.{arc_value}
use Rattle.lb_select_base.specs.Backends.{Member, same_member}
use Rattle.lb_select_base.specs.Draws.{CoreGives}
use Rattle.lb_select_base.specs.Loads.{load_in}
use Rattle.lb_select_base.specs.Selections.{Selects}
use Rattle.lb_select_base.specs.declared.words.CoreWords.{CoreWords}
use Rattle.lb_rebuild_core.specs.GroupCalls.{AcceptsBy}
use Rattle.lb_balancer_core.specs.Balancer.{Drew, Judges, members_now}
use Rattle.lb_balancer_core.proofs.Choosing.{accepts-newest, asked-more}
use Rattle.lb_balancer_core.proofs.served.Served.select_with.Goals as goal

pub invariant_of-self : goal.invariant_of-self
invariant_of-self g c =
    let p = c.self.invariant in
    let s = p.1.1 in
    (p.0, (Drew c.select.new.words.tickets ∷ p.1.0, record { view = s.view; members = s.members; tickets = refl }))

pub returns : goal.returns
returns g c =
    rw (← c.self.view_is) (record {
      answers = λ key_of events r e s.
          let gives = CoreGives {S = CoreWords g.row.G.Denot} (λ w. w.tickets) (λ w. g.G.Rng.stream w.generator) (λ w. load_in w.loads) in
          let accepts = AcceptsBy g.F.Fn c.args.accept.now (Judges key_of events e) in
          let walks = g.S.BackendSelection.walks in
          let selector = arc_value c.selector.result.now in
          let asked = asked-more gives
          (walks (g.S.BackendSelection.members selector) (g.S.BackendSelection.built_with selector) c.args.key.now)
          accepts c.args.max_iterations c.self.inside.words c.select.new.words c.select.result c.select.ensures
          (λ b a is. accepts-newest key_of events e s.view r is.shown.now b a is.shows is.says.met) in
          subst (λ config. Selects same_member accepts c.args.max_iterations gives (walks (members_now e) config c.args.key.now)
          c.self.inside.words c.select.result c.select.new.words)
          (c.selector.ensures.config ∙ c.self.invariant.0)
          (subst (λ (ms : List Member). Selects same_member accepts c.args.max_iterations gives
          (walks ms (g.S.BackendSelection.built_with selector) c.args.key.now) c.self.inside.words c.select.result c.select.new.words)
          (c.selector.ensures.members ∙ s.members) asked);
      stands = λ e s. record { view = s.view; members = s.members; tickets = refl };
      kept = refl;
    })
