mod Made
mod Found
mod Opened
mod Making
mod Filled
mod OneByOne
