use Rattle.std.proofs.Common.{◌≡◌, ◌∙◌, ◌≤◌, [], ◌∷◌, ◌++◌, ap, length, refl, subst, sym, take, true}
use Rattle.std.specs.Prelude.{if◌then◌else◌}
use Rattle.ddcmp_ports.specs.declared.port.Port.TheVariants.{First, Second}
use Rattle.ddcmp_ports.specs.Running.{Took}
use Rattle.ddcmp_bridge.specs.Crossing.{CrossesAs, passes_to, pending_of, view_of}
use Rattle.ddcmp_bridge.specs.Delaying.{Directs, due_at}
use Rattle.ddcmp_bridge.proofs.CrossLaws.{due-front, passes-joined, took-first, took-second}
use Rattle.ddcmp_bridge.proofs.bridge.BridgeMachine.took.Goals as goal

pub returns-in-First : goal.returns-in-First
returns-in-First c =
    let self = c.args.self.now in
    let passes : passes_to self.phase self.first ≡ true = sym c.if-passes_to.ensures in
    let due = due_at self.moment self.back.held in
    let fits : c.args.n ≤ length due =
    subst (λ b. c.args.n ≤ length (if b then due else [])) passes
    (subst (λ p. c.args.n ≤ length (pending_of self p)) c.in-First.is c.requires) in
    record {
      history = λ h k.
          subst (λ p. CrossesAs (record (view_of self) { back = c.took.new.self }) (Took p (take c.args.n (pending_of self p)) ∷ h)) (sym c.in-First.is)
          (subst (λ b. CrossesAs (record (view_of self) { back = c.took.new.self }) (Took First (take c.args.n (if b then due else [])) ∷ h))
          (sym passes)
          (took-first (view_of self) c.took.new.self (take c.args.n due) h
          (passes-joined self.phase self.first passes)
          (λ start came taken is.
          subst (λ x. Directs start c.took.new.self came (taken ++ x))
          (due-front self.moment self.back.held c.args.n fits)
          (c.took.ensures.directs start came taken is))
          (ap (λ r. r.faults) c.took.ensures.relay) c.took.ensures.delay k));
      same = refl;
    }

pub returns-in-Second : goal.returns-in-Second
returns-in-Second c =
    let self = c.args.self.now in
    let passes : passes_to self.phase self.second ≡ true = sym c.if-passes_to-2.ensures in
    let due = due_at self.moment self.there.held in
    let fits : c.args.n ≤ length due =
    subst (λ b. c.args.n ≤ length (if b then due else [])) passes
    (subst (λ p. c.args.n ≤ length (pending_of self p)) c.in-Second.is c.requires) in
    record {
      history = λ h k.
          subst (λ p. CrossesAs (record (view_of self) { there = c.took-in-Second.new.self }) (Took p (take c.args.n (pending_of self p)) ∷ h)) (sym c.in-Second.is)
          (subst (λ b. CrossesAs (record (view_of self) { there = c.took-in-Second.new.self }) (Took Second (take c.args.n (if b then due else [])) ∷ h))
          (sym passes)
          (took-second (view_of self) c.took-in-Second.new.self (take c.args.n due) h
          (passes-joined self.phase self.second passes)
          (λ start came taken is.
          subst (λ x. Directs start c.took-in-Second.new.self came (taken ++ x))
          (due-front self.moment self.there.held c.args.n fits)
          (c.took-in-Second.ensures.directs start came taken is))
          (ap (λ r. r.faults) c.took-in-Second.ensures.relay) c.took-in-Second.ensures.delay k));
      same = refl;
    }
