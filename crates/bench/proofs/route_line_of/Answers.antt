-- `bench::route_line_of` meets its contract: the parts of the input, the route that is answered, the line of it. Assumes nothing.
use Rattle.std.proofs.Common.{ℕ, ◌+◌, ◌*◌, ◌/◌, List, ◌++◌, length, take, drop, replicate, ◌≡◌, refl, ap, ap₂, ◌∙◌, rules, arith}
use Rattle.std.specs.Result.{result_unwrap_or}
use Rattle.judge.specs.Answers.{answer_number, answer_place}
use Rattle.bench.proofs.Texts.{front_long}
use Rattle.bench.proofs.Routes.{route_line_length, route_line_answer}
use Rattle.bench.proofs.route_line_of.Goals as goal

pub write_front-requires : goal.write_front-requires
write_front-requires c =
    let given = c.route_of_train-route in
    let shown = c.front-shown in
    let room : 64 ≡ length given.new.speeds = search rules in
    let few = front_long given.new.speeds (length c.front-orders.result.now / 24) room shown.ensures in
    omega (arith, ap length c.route_line_by-made.ensures, route_line_length (answer_number given.result) (answer_place given.result) (result_unwrap_or given.result 0) shown.result.now (λ _. few))

pub returns : goal.returns
returns c =
    let input = c.args.input.now in
    let n = c.first-n.ensures.0 in
    let orders = c.front-orders in
    let train = c.front-vehicles in
    let given = c.route_of_train-route.ensures in
    let v = train.ensures ∙ ap (take 4824) c.behind-2.ensures ∙ ap (λ (k : ℕ). take 4824 (drop (1 + 24 * k) input)) n in
    let o = orders.ensures ∙ ap₂ (λ (k : ℕ) (bs : List ℕ). take (24 * k) bs) n c.behind.ensures in
    let e = route_line_answer input train.result.now orders.result.now (replicate 64 0) refl v o given.value given.speeds_after c.front-shown.ensures in
    let line = c.route_line_by-made.ensures ∙ e in
    record { value = c.write_front.ensures.value ∙ ap length line; line_after = c.write_front.ensures.lent_after ∙ ap (λ (l : List ℕ). l ++ drop (length l) c.args.line.now) line }
