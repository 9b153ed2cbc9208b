use Rattle.ddcmp_args.proofs.command.program_parser.Goals as goal

pub returns : goal.returns
returns c =
    let one = c.with_command-made.ensures _ _ c.program_command.ensures c.explain_parser.ensures in
    let two = c.with_command-made-2.ensures _ _ one c.script_parser.ensures in
    let three = c.with_command-made-3.ensures _ _ two c.script_parser-2.ensures in
    let four = c.with_command-made-4.ensures _ _ three c.station_parser.ensures in
    let five = c.with_command-made-5.ensures _ _ four c.tap_parser.ensures in
    let six = c.with_command-made-6.ensures _ _ five c.link_parser.ensures in
    c.with_command.ensures _ _ six c.bridge_parser.ensures
