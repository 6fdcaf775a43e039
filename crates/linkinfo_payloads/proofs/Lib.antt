mod AddressSteps
mod Placing
