mod Picked
