-- The test answers what its contract says.
use Rattle.lb_select_base.specs.Draws.{CoreGives}
use Rattle.lb_select_base.specs.Loads.{load_in}
use Rattle.lb_select_base.specs.declared.words.CoreWords.{CoreWords}
use Rattle.lb_balancer_core.specs.Balancer.{Judges, members_now}
use Rattle.lb_balancer_core.proofs.Choosing.{told-more}
use Rattle.lb_balancer_core.proofs.served.Served.select.Goals as goal

pub returns : goal.returns
returns g c =
    let told = c.select_with.ensures in record {
      answers = λ key_of events r e s.
          told-more (CoreGives {S = CoreWords g.row.G.Denot} (λ w. w.tickets) (λ w. g.G.Rng.stream w.generator) (λ w. load_in w.loads))
          (g.S.BackendSelection.walks (members_now e) c.args.self.now.config c.args.key.now) (Judges key_of events e)
          c.args.max_iterations c.args.self.now.words c.select_with.new.self.words c.select_with.result
          (told.answers key_of events r e s) (λ p told a is. is.met);
      stands = told.stands;
      kept = told.kept;
    }
